use Rattle.std.proofs.Common.{List, length, ap, subst, ◌∙◌, arith}
use Rattle.xfs_collections.specs.Bank.{blocks_at}
use Rattle.xfs_disk.proofs.Reading.{reads_on}
use Rattle.xfs_geom.specs.Volumes.{volume_of}
use Rattle.xfs_rounds.specs.Named.{AreTreesOf}
use Rattle.xfs_rounds.specs.declared.named.NamingSlot.{NamingSlot}
use Rattle.xfs_rounds.proofs.Causes.{below_size, caused_on, later_on}
use Rattle.xfs_rounds.proofs.reading.read_named.Goals as goal

pub returns-in-Err : goal.returns-in-Err
returns-in-Err g c =
    let failed = c.in-Err.ensures in
    record { found = tt; read = tt; cause = failed.cause; disk = failed.disk; reads = failed.reads }

pub returns-in-Err-load_round : goal.returns-in-Err-load_round
returns-in-Err-load_round g c =
    let D = g.D.Disk in
    let trees = c.in-Ok.ensures in
    let failed = c.in-Err-load_round.ensures in
    record {
      found = tt;
      read = tt;
      cause = caused_on (D.faults c.args.disk.now) (D.faults c.read_trees.new.disk) (D.faults c.load_round.new.disk) c.in-Err-load_round.fault trees.cause failed.cause;
      disk = reads_on D.size D.holds D.write_faults D.writes D.tells_stops D.moment D.may_leave D.left_since c.args.disk.now c.read_trees.new.disk c.load_round.new.disk trees.disk failed.disk;
      reads = let up = trees.reads in let more = failed.reads in omega (arith, up, more);
    }

pub returns-in-Err-load_round-2 : goal.returns-in-Err-load_round-2
returns-in-Err-load_round-2 g c =
    let D = g.D.Disk in
    let on = reads_on D.size D.holds D.write_faults D.writes D.tells_stops D.moment D.may_leave D.left_since c.args.disk.now in
    let trees = c.in-Ok.ensures in
    let leaves = c.in-Ok-load_round.ensures in
    let failed = c.in-Err-load_round-2.ensures in
    let up = later_on (D.faults c.args.disk.now) (D.faults c.read_trees.new.disk) (D.faults c.load_round.new.disk) trees.cause leaves.cause in
    record {
      found = tt;
      read = tt;
      cause = caused_on (D.faults c.args.disk.now) (D.faults c.load_round.new.disk) (D.faults c.load_round-2.new.disk) c.in-Err-load_round-2.fault up failed.cause;
      disk = on c.load_round.new.disk c.load_round-2.new.disk (on c.read_trees.new.disk c.load_round.new.disk trees.disk leaves.disk) failed.disk;
      reads = let first = trees.reads in let second = leaves.reads in let third = failed.reads in omega (arith, first, second, third);
    }

pub returns-in-Ok-load_round-2 : goal.returns-in-Ok-load_round-2
returns-in-Ok-load_round-2 g c =
    let D = g.D.Disk in
    let on = reads_on D.size D.holds D.write_faults D.writes D.tells_stops D.moment D.may_leave D.left_since c.args.disk.now in
    let trees = c.in-Ok.ensures in
    let leaves = c.in-Ok-load_round.ensures in
    let links = c.in-Ok-load_round-2.ensures in
    let disk = on c.read_trees.new.disk c.load_round.new.disk trees.disk leaves.disk in
    let up = later_on (D.faults c.args.disk.now) (D.faults c.read_trees.new.disk) (D.faults c.load_round.new.disk) trees.cause leaves.cause in
    record {
      found = record { leaves = leaves.size ∙ ap length c.deref-2.ensures.value; links = links.size ∙ ap length c.deref-3.ensures.value };
      read = λ image told. record {
        trees = subst (λ (slots : List NamingSlot). AreTreesOf (volume_of c.args.g.now) image slots c.in-Ok.trees.items) c.deref.ensures.value (trees.read image told);
        leaves = leaves.held image (trees.disk.same_contents ∙ told) ∙ ap (blocks_at image) c.deref-2.ensures.value;
        links = links.held image (disk.same_contents ∙ told) ∙ ap (blocks_at image) c.deref-3.ensures.value;
      };
      cause = later_on (D.faults c.args.disk.now) (D.faults c.load_round.new.disk) (D.faults c.load_round-2.new.disk) up links.cause;
      disk = on c.load_round.new.disk c.load_round-2.new.disk disk links.disk;
      reads = let first = trees.reads in let second = leaves.reads in let third = links.reads in omega (arith, first, second, third);
    }

pub load_round-requires : goal.load_round-requires
load_round-requires g c =
    let D = g.D.Disk in
    record { inside = below_size _ _ c.args.g.now.dblocks (D.size c.args.disk.now) _ c.deref-2.ensures.value c.in-Ok.ensures.disk.same_size c.requires.inside c.requires.within.leaves }

pub load_round-requires-2 : goal.load_round-requires-2
load_round-requires-2 g c =
    let D = g.D.Disk in
    record {
      inside = below_size _ _ c.args.g.now.dblocks (D.size c.args.disk.now) _ c.deref-3.ensures.value (c.in-Ok-load_round.ensures.disk.same_size ∙ c.in-Ok.ensures.disk.same_size)
          c.requires.inside c.requires.within.links;
    }
