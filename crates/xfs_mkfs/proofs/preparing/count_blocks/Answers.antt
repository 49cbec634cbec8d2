-- A disk that was asked for its size was only read.
use Rattle.xfs_mkfs.proofs.preparing.count_blocks.Goals as goal

pub returns : goal.returns
returns g c =
    let is = c.blocks-2.ensures in
    record {
      count = is.count;
      cause = is.cause;
      reads = is.reads;
      disk = record {
        same_size = is.size;
        same_contents = is.holds;
        same_write_faults = is.write_faults;
        same_writes = is.writes;
        tells = is.tells;
        leaves = is.stops;
        past = is.past;
      };
    }
