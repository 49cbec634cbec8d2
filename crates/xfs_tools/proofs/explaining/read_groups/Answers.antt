-- A disk whose size could not be asked for was only read.
use Rattle.xfs_tools.proofs.explaining.read_groups.Goals as goal

pub returns-in-Err : goal.returns-in-Err
returns-in-Err g c =
    let is = c.in-Err.ensures in
    record {
      groups = tt;
      disk = record {
        same_size = is.size;
        same_contents = is.holds;
        same_write_faults = is.write_faults;
        same_writes = is.writes;
        tells = is.tells;
        leaves = is.stops;
        past = is.past;
      };
      cause = is.cause;
    }
