use Rattle.std.proofs.Common.{◌≡◌, [], ◌∷◌, Some, None, subst, arith}
use Rattle.std.specs.Option.{ForSome}
use Rattle.xfs_disk.specs.Blocks.{Image}
use Rattle.xfs_geom.specs.Volumes.{volume_of}
use Rattle.xfs_volume.specs.declared.files.FileRec.{FileRec}
use Rattle.xfs_disk.proofs.Reading.{reads_none}
use Rattle.xfs_slots.specs.Gathered.{held_in, gathered_both, of_file}
use Rattle.xfs_slots.proofs.Gathering.{bare_taken, on_ok}
use Rattle.xfs_slots.proofs.slots.take_bare.Goals as goal

pub returns-in-Ok : goal.returns-in-Ok
returns-in-Ok g c =
    let D = g.D.Disk in
    let v = volume_of c.args.g.now in
    let file = c.args.file in
    let old = held_in c.args.inodes.now in
    let mid = held_in c.note_bare.new.inodes in
    let new = held_in c.take_file.new.inodes in
    let noted =
    subst (λ (f : FileRec). mid ≡ gathered_both old (record { files = []; bare = f.ino ∷ []; entries = []; dirs = []; unread = Some f.ino; feature = None })) c.as_file.ensures
    c.in-Ok.ensures in
    record {
      held = on_ok (ForSome (D.holds c.args.disk.now) (λ (image : Image). new ≡ gathered_both mid (of_file v image file [] None)))
          (ForSome (D.holds c.args.disk.now) (λ (image : Image). new ≡ gathered_both old (of_file v image file (file.ino ∷ []) (Some file.ino))))
          c.take_file.result (λ held image told. bare_taken v image file old mid new noted (held image told)) c.take_file.ensures.held;
      cause = c.take_file.ensures.cause;
      disk = c.take_file.ensures.disk;
      reads = c.take_file.ensures.reads;
    }

pub returns-in-Err : goal.returns-in-Err
returns-in-Err g c =
    let D = g.D.Disk in
    record { held = tt; cause = omega arith; disk = reads_none D.size D.holds D.write_faults D.writes D.tells_stops D.moment D.may_leave D.left_since c.args.disk.now; reads = omega arith }
