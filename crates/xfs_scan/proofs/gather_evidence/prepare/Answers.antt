use Rattle.xfs_disk.proofs.Reading.{reads_none}
use Rattle.xfs_scan.specs.Refused.{late_in}
use Rattle.xfs_scan.proofs.Answered.{log_caused, log_refuses}
use Rattle.std.proofs.Common.{arith}
use Rattle.xfs_scan.proofs.gather_evidence.prepare.Goals as goal

pub read_log-requires : goal.read_log-requires
read_log-requires g c = record { inside = c.requires.inside }

pub returns-in-Some : goal.returns-in-Some
returns-in-Some g c =
    let D = g.D.Disk in
    record {
      bare = tt;
      log = tt;
      refused = c.in-Some.ensures.refusal;
      cause = c.in-Some.ensures.quiet (D.faults c.args.disk.now);
      disk = reads_none D.size D.holds D.write_faults D.writes D.tells_stops D.moment D.may_leave D.left_since c.args.disk.now;
      reads = omega arith;
    }

pub returns-in-Ok-copy_bare : goal.returns-in-Ok-copy_bare
returns-in-Ok-copy_bare g c = record {
  bare = c.in-Ok-copy_bare.ensures;
  log = c.in-Ok.ensures.state;
  refused = c.in-None.ensures;
  cause = c.in-Ok.ensures.cause;
  disk = c.read_log.ensures.disk;
  reads = c.read_log.ensures.reads;
}

pub returns-in-Err-copy_bare : goal.returns-in-Err-copy_bare
returns-in-Err-copy_bare g c = record {
  bare = tt;
  log = tt;
  refused = tt;
  cause = c.in-Ok.ensures.cause;
  disk = c.read_log.ensures.disk;
  reads = c.read_log.ensures.reads;
}

pub returns-in-Err : goal.returns-in-Err
returns-in-Err g c =
    let D = g.D.Disk in
    record {
      bare = tt;
      log = tt;
      refused = log_refuses (late_in c.args.inodes.now) c.in-Err.fault c.log_answer.result c.log_answer.ensures;
      cause = log_caused (D.faults c.args.disk.now) (D.faults c.read_log.new.disk) c.in-Err.fault c.log_answer.result c.log_answer.ensures c.in-Err.ensures.cause;
      disk = c.read_log.ensures.disk;
      reads = c.read_log.ensures.reads;
    }
