use Rattle.std.proofs.Common.{◌++◌, ◌∙◌, sym, ap, take}
use Rattle.xfs_disk.specs.Blocks.{bytes_of_block}
use Rattle.xfs_geom.specs.Election.{vote_in}
use Rattle.xfs_geom.proofs.Counting.{told_next}
use Rattle.xfs_geom.proofs.election.ask_block.Goals as goal

pub returns-in-Ok-ask-clause-polled : goal.returns-in-Ok-ask-clause-polled
returns-in-Ok-ask-clause-polled g c =
    let polled = c.requires.polled in
    record {
      votes = polled.votes ++ vote_in c.read_front.new.into c.args.place c.args.size;
      counted = c.in-Ok-ask.ensures polled.votes polled.counted;
      told = λ image told.
          told_next image c.args.place c.args.size c.read_front.new.into polled.votes c.requires.above
          ((g.met.D.Disk.shape c.args.disk.now image told).count ∙ sym c.requires.size)
          (c.in-Ok.ensures.bytes image told ∙ ap (λ n. take n (bytes_of_block image c.args.place)) c.requires.whole) (polled.told image told);
    }
