use Rattle.xfs_geom.proofs.Polled.{put}
use Rattle.xfs_geom.proofs.polls.Poll.put_tally.Goals as goal

pub returns-clause-tally : goal.returns-clause-tally
returns-clause-tally c =
    put c.args.self.now.tallies c.insert.new.self c.args.geometry.now c.args.tally c.in_ok-insert.ensures.updates
