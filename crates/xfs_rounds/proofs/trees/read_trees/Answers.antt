use Rattle.std.proofs.Common.{◌+◌, subst}
use Rattle.xfs_disk.proofs.Reading.{reads_none}
use Rattle.xfs_forest.specs.Causes.{IsForestCause}
use Rattle.xfs_geom.specs.Volumes.{volume_of}
use Rattle.xfs_rounds.proofs.Causes.{itself}
use Rattle.xfs_rounds.proofs.Planting.{trees_are}
use Rattle.xfs_rounds.proofs.trees.read_trees.Goals as goal

pub returns-in-Ok-read_forest-clause-read : goal.returns-in-Ok-read_forest-clause-read
returns-in-Ok-read_forest-clause-read g c = λ image told.
    trees_are (volume_of c.args.g.now) image c.args.slots.now c.in-Ok.plants.items c.in-Ok-read_forest.trees.items c.in-Ok.ensures (c.in-Ok-read_forest.ensures.read image told)

pub returns-in-Err : goal.returns-in-Err
returns-in-Err g c =
    let D = g.D.Disk in
    record {
      read = tt;
      cause = itself (D.faults c.args.disk.now);
      disk = reads_none D.size D.holds D.write_faults D.writes D.tells_stops D.moment D.may_leave D.left_since c.args.disk.now;
      reads = itself (D.reads c.args.disk.now + c.args.steps.now);
    }

pub read_forest-requires-clause-inside : goal.read_forest-requires-clause-inside
read_forest-requires-clause-inside g c = λ κs lives. c.requires.inside

pub returns-in-Ok-read_forest-clause-cause : goal.returns-in-Ok-read_forest-clause-cause
returns-in-Ok-read_forest-clause-cause g c = c.in-Ok-read_forest.ensures.cause

pub returns-in-Ok-read_forest-clause-disk : goal.returns-in-Ok-read_forest-clause-disk
returns-in-Ok-read_forest-clause-disk g c = c.in-Ok-read_forest.ensures.disk

pub returns-in-Ok-read_forest-clause-reads : goal.returns-in-Ok-read_forest-clause-reads
returns-in-Ok-read_forest-clause-reads g c = c.in-Ok-read_forest.ensures.reads

pub returns-in-Err-ReadFault : goal.returns-in-Err-ReadFault
returns-in-Err-ReadFault g c =
    let D = g.D.Disk in
    let failed = c.in-Err-ReadFault.ensures in
    record {
      read = tt;
      cause = subst (IsForestCause (D.faults c.args.disk.now) (D.faults c.read_forest.new.disk)) c.in-Err-ReadFault.field-0-is failed.cause;
      disk = failed.disk;
      reads = failed.reads;
    }

pub returns-in-Err-NoMemory : goal.returns-in-Err-NoMemory
returns-in-Err-NoMemory g c =
    let D = g.D.Disk in
    let failed = c.in-Err-NoMemory.ensures in
    record {
      read = tt;
      cause = subst (IsForestCause (D.faults c.args.disk.now) (D.faults c.read_forest.new.disk)) c.in-Err-NoMemory.field-0-is failed.cause;
      disk = failed.disk;
      reads = failed.reads;
    }
