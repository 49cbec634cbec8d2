use Rattle.std.proofs.Common.{refl, subst}
use Rattle.xfs_image.specs.Files.{clusters_of}
use Rattle.xfs_journal.specs.Answers.{IsJournalCause}
use Rattle.xfs_journal.specs.declared.faults.JournalFault.{JournalFault}
use Rattle.xfs_rebuild.proofs.bytes.file_lsns.Goals as goal

pub read_lsns-requires-clause-clusters : goal.read_lsns-requires-clause-clusters
unfolding clusters_of
read_lsns-requires-clause-clusters g c = refl

pub returns-in-Err-NoMemory : goal.returns-in-Err-NoMemory
returns-in-Err-NoMemory g c =
    let D = g.D.Disk in
    let failed = c.in-Err-NoMemory.ensures in
    record {
      lsns = tt;
      refused = tt;
      cause = subst (λ (f : JournalFault). IsJournalCause (D.faults c.args.disk.now) (D.faults c.read_lsns.new.disk) f) c.in-Err-NoMemory.field-0-is failed.cause;
      disk = failed.disk;
    }

pub returns-in-Err-ReadFault : goal.returns-in-Err-ReadFault
returns-in-Err-ReadFault g c =
    let D = g.D.Disk in
    let failed = c.in-Err-ReadFault.ensures in
    record {
      lsns = tt;
      refused = tt;
      cause = subst (λ (f : JournalFault). IsJournalCause (D.faults c.args.disk.now) (D.faults c.read_lsns.new.disk) f) c.in-Err-ReadFault.field-0-is failed.cause;
      disk = failed.disk;
    }

pub returns-in-Ok-numbers_in-clause-refused : goal.returns-in-Ok-numbers_in-clause-refused
returns-in-Ok-numbers_in-clause-refused g c = tt

pub returns-in-Ok-numbers_in-clause-cause : goal.returns-in-Ok-numbers_in-clause-cause
returns-in-Ok-numbers_in-clause-cause g c = c.in-Ok.ensures.cause

pub returns-in-Ok-numbers_in-clause-disk : goal.returns-in-Ok-numbers_in-clause-disk
returns-in-Ok-numbers_in-clause-disk g c = c.in-Ok.ensures.disk

pub returns : goal.returns
returns g c =
    let read = c.in-Ok.ensures in
    record { lsns = tt; refused = tt; cause = read.cause; disk = read.disk }
