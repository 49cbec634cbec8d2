use Rattle.std.proofs.Common.{ap, ◌∙◌, map, subst, arith}
use Rattle.xfs_disk.proofs.Reading.{reads_none}
use Rattle.xfs_forest.specs.Causes.{IsForestCause}
use Rattle.xfs_forest.specs.Forest.{contents_of}
use Rattle.xfs_groups.proofs.Causes.{no_later}
use Rattle.xfs_groups.proofs.forests.read_kind.Goals as goal

pub returns-in-Err : goal.returns-in-Err
returns-in-Err g c =
    let D = g.D.Disk in
    record {
      read = tt;
      cause = no_later (D.faults c.args.disk.now);
      disk = reads_none D.size D.holds D.write_faults D.writes D.tells_stops D.moment D.may_leave D.left_since c.args.disk.now;
      reads = omega arith;
    }

pub returns-in-Ok-read_forest : goal.returns-in-Ok-read_forest
returns-in-Ok-read_forest g c =
    let found = c.in-Ok-read_forest.ensures in
    record {
      read = λ image told. ap (map contents_of) c.into_iter.ensures.rest ∙ (found.read image told ∙ c.in-Ok.ensures image);
      cause = found.cause;
      disk = found.disk;
      reads = found.reads;
    }

pub returns-in-Err-ReadFault : goal.returns-in-Err-ReadFault
returns-in-Err-ReadFault g c =
    let D = g.D.Disk in
    let found = c.in-Err-ReadFault.ensures in
    record {
      read = tt;
      cause = subst (IsForestCause (D.faults c.args.disk.now) (D.faults c.read_forest.new.disk)) c.in-Err-ReadFault.field-0-is found.cause;
      disk = found.disk;
      reads = found.reads;
    }

pub returns-in-Err-NoMemory : goal.returns-in-Err-NoMemory
returns-in-Err-NoMemory g c =
    let D = g.D.Disk in
    let found = c.in-Err-NoMemory.ensures in
    record {
      read = tt;
      cause = subst (IsForestCause (D.faults c.args.disk.now) (D.faults c.read_forest.new.disk)) c.in-Err-NoMemory.field-0-is found.cause;
      disk = found.disk;
      reads = found.reads;
    }
