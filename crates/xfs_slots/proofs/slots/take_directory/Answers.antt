use Rattle.std.proofs.Common.{ap, subst, ◌∙◌}
use Rattle.xfs_geom.specs.Volumes.{volume_of}
use Rattle.xfs_dirs.specs.Answers.{IsDirCause}
use Rattle.xfs_slots.specs.Gathered.{held_in, gathered_both}
use Rattle.xfs_slots.proofs.Gathering.{found_directory, other_file}
use Rattle.xfs_slots.proofs.slots.take_directory.Goals as goal

pub returns-then-not-is_directory-clause-held : goal.returns-then-not-is_directory-clause-held
returns-then-not-is_directory-clause-held g c = λ image told.
    other_file (volume_of c.args.g.now) image c.args.file.now (held_in c.args.inodes.now) (cc)

pub returns-in-Ok-push_directory-clause-held : goal.returns-in-Ok-push_directory-clause-held
returns-in-Ok-push_directory-clause-held g c = λ image told.
    c.in-Ok-push_directory.ensures
    ∙ ap (gathered_both (held_in c.args.inodes.now))
    (found_directory (volume_of c.args.g.now) image c.args.file.now c.in-Ok.found (cc) (c.in-Ok.ensures.entries image told) (c.in-Ok.ensures.parent image told) (c.in-Ok.ensures.whole image told))

pub returns-in-Err : goal.returns-in-Err
returns-in-Err g c = record { held = tt; cause = c.in-Ok.ensures.cause; disk = c.in-Ok.ensures.disk; reads = c.in-Ok.ensures.reads }

pub returns-in-Err-ReadFault : goal.returns-in-Err-ReadFault
returns-in-Err-ReadFault g c =
    let D = g.D.Disk in
    let failed = c.in-Err-ReadFault.ensures in
    record {
      held = tt;
      cause = subst (IsDirCause (D.faults c.args.disk.now) (D.faults c.read_directory.new.disk)) c.in-Err-ReadFault.field-0-is failed.cause;
      disk = failed.disk;
      reads = failed.reads;
    }

pub returns-in-Err-NoMemory : goal.returns-in-Err-NoMemory
returns-in-Err-NoMemory g c =
    let D = g.D.Disk in
    let failed = c.in-Err-NoMemory.ensures in
    record {
      held = tt;
      cause = subst (IsDirCause (D.faults c.args.disk.now) (D.faults c.read_directory.new.disk)) c.in-Err-NoMemory.field-0-is failed.cause;
      disk = failed.disk;
      reads = failed.reads;
    }
