use Rattle.std.proofs.Common.{◌∙◌, arith}
use Rattle.xfs_disk.proofs.Reading.{reads_on}
use Rattle.xfs_groups.proofs.Causes.{caused_on, later}
use Rattle.xfs_groups.proofs.forests.read_forests.Goals as goal

pub returns-in-Err : goal.returns-in-Err
returns-in-Err g c = record { left = tt; cause = c.in-Err.ensures.cause; disk = c.in-Err.ensures.disk; reads = omega arith }

pub returns-in-Err-read_kind : goal.returns-in-Err-read_kind
returns-in-Err-read_kind g c =
    let D = g.D.Disk in
    record {
      left = tt;
      cause = caused_on (D.faults c.args.disk.now) (D.faults c.read_kind.new.disk) (D.faults c.read_kind-2.new.disk) c.in-Err-read_kind.fault c.in-Ok.ensures.cause
          c.in-Err-read_kind.ensures.cause;
      disk = reads_on D.size D.holds D.write_faults D.writes D.tells_stops D.moment D.may_leave D.left_since c.args.disk.now c.read_kind.new.disk c.read_kind-2.new.disk c.in-Ok.ensures.disk
          c.in-Err-read_kind.ensures.disk;
      reads = omega arith;
    }

pub returns-in-Err-read_kind-2 : goal.returns-in-Err-read_kind-2
returns-in-Err-read_kind-2 g c =
    let D = g.D.Disk in
    let on = reads_on D.size D.holds D.write_faults D.writes D.tells_stops D.moment D.may_leave D.left_since c.args.disk.now in
    let cnt = on c.read_kind.new.disk c.read_kind-2.new.disk c.in-Ok.ensures.disk c.in-Ok-read_kind.ensures.disk in
    let up = later (D.faults c.args.disk.now) (D.faults c.read_kind.new.disk) (D.faults c.read_kind-2.new.disk) c.in-Ok.ensures.cause c.in-Ok-read_kind.ensures.cause in
    record {
      left = tt;
      cause = caused_on (D.faults c.args.disk.now) (D.faults c.read_kind-2.new.disk) (D.faults c.read_kind-3.new.disk) c.in-Err-read_kind-2.fault up c.in-Err-read_kind-2.ensures.cause;
      disk = on c.read_kind-2.new.disk c.read_kind-3.new.disk cnt c.in-Err-read_kind-2.ensures.disk;
      reads = omega arith;
    }

pub returns-in-Err-read_kind-3 : goal.returns-in-Err-read_kind-3
returns-in-Err-read_kind-3 g c =
    let D = g.D.Disk in
    let on = reads_on D.size D.holds D.write_faults D.writes D.tells_stops D.moment D.may_leave D.left_since c.args.disk.now in
    let cnt = on c.read_kind.new.disk c.read_kind-2.new.disk c.in-Ok.ensures.disk c.in-Ok-read_kind.ensures.disk in
    let ino = on c.read_kind-2.new.disk c.read_kind-3.new.disk cnt c.in-Ok-read_kind-2.ensures.disk in
    let risen = later (D.faults c.args.disk.now) in
    let up = risen (D.faults c.read_kind-2.new.disk) (D.faults c.read_kind-3.new.disk)
    (risen (D.faults c.read_kind.new.disk) (D.faults c.read_kind-2.new.disk) c.in-Ok.ensures.cause c.in-Ok-read_kind.ensures.cause) c.in-Ok-read_kind-2.ensures.cause in
    record {
      left = tt;
      cause = caused_on (D.faults c.args.disk.now) (D.faults c.read_kind-3.new.disk) (D.faults c.read_kind-4.new.disk) c.in-Err-read_kind-3.fault up c.in-Err-read_kind-3.ensures.cause;
      disk = on c.read_kind-3.new.disk c.read_kind-4.new.disk ino c.in-Err-read_kind-3.ensures.disk;
      reads = omega arith;
    }

pub returns-in-Err-read_kind-4 : goal.returns-in-Err-read_kind-4
returns-in-Err-read_kind-4 g c =
    let D = g.D.Disk in
    let on = reads_on D.size D.holds D.write_faults D.writes D.tells_stops D.moment D.may_leave D.left_since c.args.disk.now in
    let cnt = on c.read_kind.new.disk c.read_kind-2.new.disk c.in-Ok.ensures.disk c.in-Ok-read_kind.ensures.disk in
    let ino = on c.read_kind-2.new.disk c.read_kind-3.new.disk cnt c.in-Ok-read_kind-2.ensures.disk in
    let fino = on c.read_kind-3.new.disk c.read_kind-4.new.disk ino c.in-Ok-read_kind-3.ensures.disk in
    let risen = later (D.faults c.args.disk.now) in
    let up = risen (D.faults c.read_kind-3.new.disk) (D.faults c.read_kind-4.new.disk)
    (risen (D.faults c.read_kind-2.new.disk) (D.faults c.read_kind-3.new.disk)
    (risen (D.faults c.read_kind.new.disk) (D.faults c.read_kind-2.new.disk) c.in-Ok.ensures.cause c.in-Ok-read_kind.ensures.cause) c.in-Ok-read_kind-2.ensures.cause)
    c.in-Ok-read_kind-3.ensures.cause in
    record {
      left = tt;
      cause = caused_on (D.faults c.args.disk.now) (D.faults c.read_kind-4.new.disk) (D.faults c.read_kind-5.new.disk) c.in-Err-read_kind-4.fault up c.in-Err-read_kind-4.ensures.cause;
      disk = on c.read_kind-4.new.disk c.read_kind-5.new.disk fino c.in-Err-read_kind-4.ensures.disk;
      reads = omega arith;
    }

pub returns-in-Ok-read_kind-4 : goal.returns-in-Ok-read_kind-4
returns-in-Ok-read_kind-4 g c =
    let D = g.D.Disk in
    let on = reads_on D.size D.holds D.write_faults D.writes D.tells_stops D.moment D.may_leave D.left_since c.args.disk.now in
    let bno = c.in-Ok.ensures.disk in
    let cnt = on c.read_kind.new.disk c.read_kind-2.new.disk bno c.in-Ok-read_kind.ensures.disk in
    let ino = on c.read_kind-2.new.disk c.read_kind-3.new.disk cnt c.in-Ok-read_kind-2.ensures.disk in
    let fino = on c.read_kind-3.new.disk c.read_kind-4.new.disk ino c.in-Ok-read_kind-3.ensures.disk in
    let risen = later (D.faults c.args.disk.now) in
    let up = risen (D.faults c.read_kind-3.new.disk) (D.faults c.read_kind-4.new.disk)
    (risen (D.faults c.read_kind-2.new.disk) (D.faults c.read_kind-3.new.disk)
    (risen (D.faults c.read_kind.new.disk) (D.faults c.read_kind-2.new.disk) c.in-Ok.ensures.cause c.in-Ok-read_kind.ensures.cause) c.in-Ok-read_kind-2.ensures.cause)
    c.in-Ok-read_kind-3.ensures.cause in
    record {
      left = λ image told. record {
        bno = c.in-Ok.ensures.read image told;
        cnt = c.in-Ok-read_kind.ensures.read image (bno.same_contents ∙ told);
        ino = c.in-Ok-read_kind-2.ensures.read image (cnt.same_contents ∙ told);
        fino = c.in-Ok-read_kind-3.ensures.read image (ino.same_contents ∙ told);
        rmap = c.in-Ok-read_kind-4.ensures.read image (fino.same_contents ∙ told);
      };
      cause = risen (D.faults c.read_kind-4.new.disk) (D.faults c.read_kind-5.new.disk) up c.in-Ok-read_kind-4.ensures.cause;
      disk = on c.read_kind-4.new.disk c.read_kind-5.new.disk fino c.in-Ok-read_kind-4.ensures.disk;
      reads = omega arith;
    }
