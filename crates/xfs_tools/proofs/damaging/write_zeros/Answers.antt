-- What is written of the bank is a block of zeros.
use Rattle.xfs_tools.proofs.Zeros.{partly_zeros, stopped_zeros, written_zeros}
use Rattle.xfs_tools.proofs.damaging.write_zeros.Goals as goal

pub returns : goal.returns
returns g c =
    let D = g.D.Disk in
    let is = c.write_parts.ensures in
    record {
      done = written_zeros c.args.zeros.now c.args.place (D.holds c.args.disk.now) (D.holds c.write_parts.new.disk) c.write_parts.result c.requires.zeros is.done;
      partly = partly_zeros c.args.zeros.now c.args.place (D.holds c.args.disk.now) (D.holds c.write_parts.new.disk) c.write_parts.result c.requires.zeros is.partly;
      most = is.most;
      counted = is.counted;
      size = is.size;
      cause = is.cause;
      kept = is.kept;
      stops = λ tells image told t stopped low left.
          stopped_zeros c.args.zeros.now c.args.place image stopped (D.left_since c.args.disk.now t stopped) c.requires.zeros (is.stops tells image told t stopped low left);
      later = is.later;
      tells = is.tells;
    }
