-- The log is asked for, or not.
use Rattle.std.proofs.Common.{◌≡◌, ◌&&◌, Bool, true, false, ap, sym, ◌∙◌, arith}
use Rattle.xfs_disk.proofs.Reading.{reads_none}
use Rattle.xfs_geom.specs.Volumes.{volume_of}
use Rattle.xfs_image.specs.View.{log_of}
use Rattle.xfs_mend.specs.Asked.{repair_asked}
use Rattle.xfs_mend.specs.Due.{asks_log, is_dirty}
use Rattle.xfs_mend.proofs.refusals.read_state.Goals as goal

pub returns-then-not-asks_log : goal.returns-then-not-asks_log
returns-then-not-asks_log g c =
    let D = g.D.Disk in
    let asks : asks_log (repair_asked c.args.options.now) ≡ false = sym c.asks_log.ensures ∙ c.if-not-asks_log.true in
    record {
      stands = λ image told. sym (ap (λ (b : Bool). b && is_dirty (log_of (volume_of c.args.g.now) image)) asks);
      cause = omega arith;
      disk = reads_none D.size D.holds D.write_faults D.writes D.tells_stops D.moment D.may_leave D.left_since c.args.disk.now;
    }

pub returns-in-Ok : goal.returns-in-Ok
returns-in-Ok g c =
    let asks : asks_log (repair_asked c.args.options.now) ≡ true = sym c.asks_log.ensures ∙ c.if-not-asks_log.false in
    record {
      stands = λ image told. c.is_dirty.ensures ∙ (ap is_dirty (c.in-Ok.ensures.state image told)
          ∙ sym (ap (λ (b : Bool). b && is_dirty (log_of (volume_of c.args.g.now) image)) asks));
      cause = c.in-Ok.ensures.cause;
      disk = c.in-Ok.ensures.disk;
    }

pub returns-in-Err-ReadFault : goal.returns-in-Err-ReadFault
returns-in-Err-ReadFault g c = record { stands = tt; cause = rw c.in-Err-ReadFault.field-0-is at c.in-Err-ReadFault.ensures.cause; disk = c.in-Err-ReadFault.ensures.disk }

pub returns-in-Err-NoMemory : goal.returns-in-Err-NoMemory
returns-in-Err-NoMemory g c = record { stands = tt; cause = rw c.in-Err-NoMemory.field-0-is at c.in-Err-NoMemory.ensures.cause; disk = c.in-Err-NoMemory.ensures.disk }
