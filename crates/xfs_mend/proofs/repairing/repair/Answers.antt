-- What the parts say, clause by clause.
use Rattle.xfs_mend.proofs.Ending.{check_quiet}
use Rattle.xfs_mend.specs.Asked.{repair_asked}
use Rattle.xfs_mend.proofs.repairing.repair.Goals as goal

pub returns : goal.returns
returns g c =
    let part = c.repair_disk.ensures in
    let ends = part.ends in
    record {
      due = part.due;
      cause = ends.cause;
      leaves = part.leaves;
      kept = ends.kept;
      counted = ends.counted;
      only_read = ends.only_read;
      checked = λ checks. let disk = ends.only_read (check_quiet (repair_asked c.args.options.now) c.repair_disk.result checks part.possible) in disk.same_writes;
      possible = part.possible;
      stops = part.stops;
      size = ends.same_size;
      faults = ends.more_faults;
      write_faults = ends.more_write_faults;
      tells = ends.tells;
      later = ends.later;
    }
