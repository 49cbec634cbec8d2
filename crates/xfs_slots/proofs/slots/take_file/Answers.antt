use Rattle.std.proofs.Common.{◌≡◌, None, true, sym, subst}
use Rattle.xfs_geom.specs.Volumes.{volume_of}
use Rattle.xfs_image.specs.Slots.{slot_bytes}
use Rattle.xfs_inode.specs.Files.{are_extents}
use Rattle.xfs_volume.specs.declared.files.FileRec.{FileRec}
use Rattle.xfs_slots.specs.Gathered.{held_in, gathered_both, of_directory}
use Rattle.xfs_slots.proofs.Gathering.{file_taken}
use Rattle.xfs_slots.proofs.slots.take_file.Goals as goal

pub take_directory-requires-clause-held : goal.take_directory-requires-clause-held
take_directory-requires-clause-held g c = λ image told.
    subst (λ (f : FileRec). slot_bytes (volume_of c.args.g.now) image f.ino ≡ c.args.slot.now) (sym c.as_file.ensures) (c.requires.held image told)

pub take_directory-requires-clause-extents : goal.take_directory-requires-clause-extents
take_directory-requires-clause-extents g c =
    subst (λ (f : FileRec). are_extents (volume_of c.args.g.now) None f.extents ≡ true) (sym c.as_file.ensures) c.requires.extents

pub returns-in-Err : goal.returns-in-Err
returns-in-Err g c = record { held = tt; cause = c.in-Err.ensures.cause; disk = c.in-Err.ensures.disk; reads = c.in-Err.ensures.reads }

pub returns-in-Ok-push_file : goal.returns-in-Ok-push_file
returns-in-Ok-push_file g c =
    let v = volume_of c.args.g.now in
    let old = held_in c.args.inodes.now in
    let mid = held_in c.take_directory.new.inodes in
    record {
      held = λ image told. file_taken v image c.args.file old mid (held_in c.push_file.new.inodes)
          (subst (λ (f : FileRec). mid ≡ gathered_both old (of_directory v image f)) c.as_file.ensures (c.in-Ok.ensures.held image told)) c.in-Ok-push_file.ensures;
      cause = c.in-Ok.ensures.cause;
      disk = c.in-Ok.ensures.disk;
      reads = c.in-Ok.ensures.reads;
    }

pub returns-in-Err-push_file : goal.returns-in-Err-push_file
returns-in-Err-push_file g c = record { held = tt; cause = c.in-Ok.ensures.cause; disk = c.in-Ok.ensures.disk; reads = c.in-Ok.ensures.reads }
