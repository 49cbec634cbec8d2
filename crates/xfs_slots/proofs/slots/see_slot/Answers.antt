use Rattle.std.proofs.Common.{ℕ, ◌≤◌, sym, subst, ◌∙◌, arith}
use Rattle.xfs_disk.proofs.Reading.{reads_on}
use Rattle.xfs_inode.specs.Named.{IsInodeCause}
use Rattle.xfs_slots.proofs.Causes.{result_caused}
use Rattle.xfs_slots.proofs.slots.see_slot.Goals as goal

pub take_read-requires-clause-slot : goal.take_read-requires-clause-slot
take_read-requires-clause-slot g c = c.requires.slot

pub take_read-requires-clause-inside : goal.take_read-requires-clause-inside
take_read-requires-clause-inside g c = subst (λ (n : ℕ). c.args.g.now.dblocks ≤ n) (sym c.in-Ok.ensures.disk.same_size) c.requires.inside

pub take_read-requires-clause-held : goal.take_read-requires-clause-held
take_read-requires-clause-held g c = λ image told. c.requires.held image (sym c.in-Ok.ensures.disk.same_contents ∙ told)

pub take_read-requires-clause-sound : goal.take_read-requires-clause-sound
take_read-requires-clause-sound g c = c.in-Ok.ensures.sound

pub returns-in-Ok-clause-cause : goal.returns-in-Ok-clause-cause
returns-in-Ok-clause-cause g c =
    let D = g.D.Disk in
    result_caused (D.faults c.args.disk.now) (D.faults c.read_file_of.new.disk) (D.faults c.take_read.new.disk) c.take_read.result c.in-Ok.ensures.cause c.take_read.ensures.cause

pub returns-in-Ok-clause-disk : goal.returns-in-Ok-clause-disk
returns-in-Ok-clause-disk g c =
    let D = g.D.Disk in
    reads_on D.size D.holds D.write_faults D.writes D.tells_stops D.moment D.may_leave D.left_since c.args.disk.now c.read_file_of.new.disk c.take_read.new.disk c.in-Ok.ensures.disk c.take_read.ensures.disk

pub returns-in-Ok-clause-reads : goal.returns-in-Ok-clause-reads
returns-in-Ok-clause-reads g c = let up = c.in-Ok.ensures.reads in let more = c.take_read.ensures.reads in omega (arith, up, more)

pub returns-in-Err-ReadFault : goal.returns-in-Err-ReadFault
returns-in-Err-ReadFault g c =
    let D = g.D.Disk in
    let failed = c.in-Err-ReadFault.ensures in
    record {
      held = tt;
      cause = subst (IsInodeCause (D.faults c.args.disk.now) (D.faults c.read_file_of.new.disk)) c.in-Err-ReadFault.field-0-is failed.cause;
      disk = failed.disk;
      reads = failed.reads;
    }

pub returns-in-Err-NoMemory : goal.returns-in-Err-NoMemory
returns-in-Err-NoMemory g c =
    let D = g.D.Disk in
    let failed = c.in-Err-NoMemory.ensures in
    record {
      held = tt;
      cause = subst (IsInodeCause (D.faults c.args.disk.now) (D.faults c.read_file_of.new.disk)) c.in-Err-NoMemory.field-0-is failed.cause;
      disk = failed.disk;
      reads = failed.reads;
    }
