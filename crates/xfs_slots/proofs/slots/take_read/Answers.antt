use Rattle.std.proofs.Common.{◌≡◌, ℕ, [], ◌∷◌, Some, OnOk, ap, sym, subst, ◌∙◌, arith}
use Rattle.std.specs.Option.{ForSome}
use Rattle.xfs_geom.specs.Volumes.{volume_of}
use Rattle.xfs_disk.proofs.Reading.{reads_none}
use Rattle.xfs_inode.specs.declared.files.FileRead.{FileRead}
use Rattle.xfs_inode.specs.Sound.{IsSound}
use Rattle.xfs_image.specs.Slots.{slot_bytes}
use Rattle.xfs_slots.specs.Gathered.{held_in, gathered_both, of_file, of_read}
use Rattle.xfs_slots.proofs.Gathering.{joined_nothing}
use Rattle.xfs_slots.proofs.slots.take_read.Goals as goal

pub take_file-requires-clause-held : goal.take_file-requires-clause-held
take_file-requires-clause-held g c = λ image told.
    let v = volume_of c.args.g.now in
    let sound = subst (IsSound v c.args.ino) c.in-File.is c.requires.sound in
    subst (λ (n : ℕ). slot_bytes v image n ≡ c.args.slot.now) (sym sound.keeps.number) (c.requires.held image told)

pub take_file-requires-clause-extents : goal.take_file-requires-clause-extents
take_file-requires-clause-extents g c = (subst (IsSound (volume_of c.args.g.now) c.args.ino) c.in-File.is c.requires.sound).keeps.extents

pub take_bare-requires-clause-held : goal.take_bare-requires-clause-held
take_bare-requires-clause-held g c = λ image told.
    let v = volume_of c.args.g.now in
    let sound = subst (IsSound v c.args.ino) c.in-FileWithoutAttrs.is c.requires.sound in
    subst (λ (n : ℕ). slot_bytes v image n ≡ c.args.slot.now) (sym sound.keeps.number) (c.requires.held image told)

pub take_bare-requires-clause-extents : goal.take_bare-requires-clause-extents
take_bare-requires-clause-extents g c = (subst (IsSound (volume_of c.args.g.now) c.args.ino) c.in-FileWithoutAttrs.is c.requires.sound).keeps.extents

pub returns-in-Free : goal.returns-in-Free
returns-in-Free g c =
    let D = g.D.Disk in
    let old = held_in c.args.inodes.now in
    record {
      held = λ image told. sym (ap (λ (r : FileRead). gathered_both old (of_read (volume_of c.args.g.now) image c.args.ino r)) c.in-Free.is ∙ joined_nothing old);
      cause = omega arith;
      disk = reads_none D.size D.holds D.write_faults D.writes D.tells_stops D.moment D.may_leave D.left_since c.args.disk.now;
      reads = omega arith;
    }

pub returns-in-File : goal.returns-in-File
returns-in-File g c =
    let v = volume_of c.args.g.now in
    let old = held_in c.args.inodes.now in
    record {
      held = subst (λ (r : FileRead). OnOk c.take_file.result (ForSome (g.D.Disk.holds c.args.disk.now) (λ image.
          held_in c.take_file.new.inodes ≡ gathered_both old (of_read v image c.args.ino r)))) (sym c.in-File.is) c.take_file.ensures.held;
      cause = c.take_file.ensures.cause;
      disk = c.take_file.ensures.disk;
      reads = c.take_file.ensures.reads;
    }

pub returns-in-FileWithoutAttrs : goal.returns-in-FileWithoutAttrs
returns-in-FileWithoutAttrs g c =
    let v = volume_of c.args.g.now in
    let old = held_in c.args.inodes.now in
    let file = c.in-FileWithoutAttrs.file in
    let sound = subst (IsSound v c.args.ino) c.in-FileWithoutAttrs.is c.requires.sound in
    let held = subst (λ (n : ℕ). OnOk c.take_bare.result (ForSome (g.D.Disk.holds c.args.disk.now) (λ image.
    held_in c.take_bare.new.inodes ≡ gathered_both old (of_file v image file (n ∷ []) (Some n))))) sound.keeps.number c.take_bare.ensures.held in
    record {
      held = subst (λ (r : FileRead). OnOk c.take_bare.result (ForSome (g.D.Disk.holds c.args.disk.now) (λ image.
          held_in c.take_bare.new.inodes ≡ gathered_both old (of_read v image c.args.ino r)))) (sym c.in-FileWithoutAttrs.is) held;
      cause = c.take_bare.ensures.cause;
      disk = c.take_bare.ensures.disk;
      reads = c.take_bare.ensures.reads;
    }

pub returns-in-Unsupported : goal.returns-in-Unsupported
returns-in-Unsupported g c =
    let D = g.D.Disk in
    let old = held_in c.args.inodes.now in
    record {
      held = λ image told. subst (λ (r : FileRead). held_in c.pass.new.self ≡ gathered_both old (of_read (volume_of c.args.g.now) image c.args.ino r)) (sym c.in-Unsupported.is) c.pass.ensures;
      cause = omega arith;
      disk = reads_none D.size D.holds D.write_faults D.writes D.tells_stops D.moment D.may_leave D.left_since c.args.disk.now;
      reads = omega arith;
    }

pub returns-in-Unsound : goal.returns-in-Unsound
returns-in-Unsound g c =
    let D = g.D.Disk in
    let old = held_in c.args.inodes.now in
    record {
      held = λ image told. subst (λ (r : FileRead). held_in c.pass-in-Unsound.new.self ≡ gathered_both old (of_read (volume_of c.args.g.now) image c.args.ino r)) (sym c.in-Unsound.is) c.pass-in-Unsound.ensures;
      cause = omega arith;
      disk = reads_none D.size D.holds D.write_faults D.writes D.tells_stops D.moment D.may_leave D.left_since c.args.disk.now;
      reads = omega arith;
    }
