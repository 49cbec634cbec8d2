use Rattle.std.proofs.Common.{sym, subst}
use Rattle.std.specs.List.Sorted.{IsNonDecreasingBy}
use Rattle.xfs_disk.proofs.Reading.{reads_none}
use Rattle.xfs_render.specs.declared.wanted_slots.SlotWanted.{SlotWanted}
use Rattle.xfs_rebuild.proofs.Causes.{no_later}
use Rattle.xfs_rebuild.proofs.Old.{at_hand_of, read_as}
use Rattle.xfs_rebuild.proofs.bytes.gather_bytes.Goals as goal

pub read_old-requires : goal.read_old-requires
read_old-requires g c = record {
  inside = c.requires.inside;
  lie = c.requires.lie;
  order = subst (IsNonDecreasingBy (λ (w : SlotWanted). w.ino)) (sym c.as_slice.ensures) c.requires.order;
}

pub returns-in-Err : goal.returns-in-Err
returns-in-Err g c =
    let D = g.D.Disk in
    record {
      at_hand = tt;
      read = tt;
      refused = tt;
      cause = no_later (D.faults c.args.disk.now);
      disk = reads_none D.size D.holds D.write_faults D.writes D.tells_stops D.moment D.may_leave D.left_since c.args.disk.now;
    }

pub returns-in-Ok-read_old : goal.returns-in-Ok-read_old
returns-in-Ok-read_old g c =
    let D = g.D.Disk in
    let due = c.in-Ok.ensures in
    let read = c.in-Ok-read_old.ensures in
    let old = c.in-Ok-read_old.old in
    record {
      at_hand =
          at_hand_of c.args.chosen.now.geometry c.args.chosen.now.sector c.args.stamp.now c.args.clusters.now c.args.lsns.now c.args.log.now c.args.slots c.as_slice.result.now old c.in-Ok.cycle
          c.joined.result c.joined.ensures c.as_slice.ensures read.old due.few;
      read = λ image told.
          read_as c.args.chosen.now.geometry c.args.chosen.now.sector c.args.stamp.now c.args.clusters.now c.args.lsns.now c.args.log.now c.args.slots c.as_slice.result.now old c.in-Ok.cycle
          c.joined.result c.joined.ensures image (read.read image told) due.cycle;
      refused = tt;
      cause = read.cause;
      disk = read.disk;
    }

pub returns-in-Err-read_old : goal.returns-in-Err-read_old
returns-in-Err-read_old g c =
    let failed = c.in-Err-read_old.ensures in
    record { at_hand = tt; read = tt; refused = failed.refused; cause = failed.cause; disk = failed.disk }
