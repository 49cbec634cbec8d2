use Rattle.std.proofs.Common.{◌∙◌}
use Rattle.xfs_geom.proofs.Polled.{found}
use Rattle.xfs_geom.proofs.polls.Poll.tally_of.Goals as goal

pub returns : goal.returns
returns c = c.copied.ensures ∙ (c.get.ensures.value ∙ found c.args.self.now.tallies c.args.geometry.now)
