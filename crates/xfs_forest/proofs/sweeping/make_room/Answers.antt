use Rattle.xfs_disk.proofs.Reading.{reads_none}
use Rattle.std.proofs.Common.{length, sym, subst, get_or, arith}
use Rattle.xfs_geom.specs.Volumes.{volume_of}
use Rattle.xfs_forest.specs.Forest.{spots_of, AreGrowing}
use Rattle.xfs_forest.proofs.Forests.{forest_kept, none_listed, kept_same, falsely}
use Rattle.xfs_forest.proofs.sweeping.make_room.Goals as goal

pub returns-in-Ok : goal.returns-in-Ok
returns-in-Ok g c =
    record {
      kept = c.in-Ok.ensures.kept;
      forest = forest_kept (length c.args.plants.now) c.args.g.now.dblocks c.args.trees.now c.read_round.new.trees c.args.cells.now.items c.read_round.new.cells.items c.read_round.auto.trees
          c.requires.forest c.in-Ok.ensures.kept (none_listed (length c.args.plants.now) c.args.g.now.dblocks c.read_round.new.cells.items c.in-Ok.ensures.none);
      none = λ need. c.in-Ok.ensures.none;
      grows = λ image told growing.
          subst (λ cells. AreGrowing g.K.Kind.shape (volume_of c.args.g.now) image c.args.plants.now c.read_round.new.trees (spots_of cells)) (sym c.in-Ok.ensures.none)
          (c.in-Ok.ensures.grows image told growing);
      cause = c.in-Ok.ensures.cause;
      disk = c.in-Ok.ensures.disk;
      reads = c.in-Ok.ensures.reads;
    }

pub read_round-requires-clause-inside : goal.read_round-requires-clause-inside
read_round-requires-clause-inside g c = λ κs lives. c.requires.inside

pub read_round-requires-clause-forest : goal.read_round-requires-clause-forest
read_round-requires-clause-forest g c = λ κs lives. c.requires.forest

pub returns-in-Err : goal.returns-in-Err
returns-in-Err g c = record { kept = tt; forest = tt; none = tt; grows = tt; cause = c.in-Err.ensures.cause; disk = c.in-Err.ensures.disk; reads = c.in-Err.ensures.reads }

pub returns-then-not-needed : goal.returns-then-not-needed
returns-then-not-needed g c =
    let D = g.D.Disk in
    record {
      kept = λ i d inside. kept_same (get_or c.args.trees.now i d);
      forest = c.requires.forest;
      none = falsely c.args.needed c.if-not-needed.true;
      grows = λ image told growing. growing;
      cause = omega arith;
      disk = reads_none D.size D.holds D.write_faults D.writes D.tells_stops D.moment D.may_leave D.left_since c.args.disk.now;
      reads = omega arith;
    }
