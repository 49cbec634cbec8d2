-- What the calls of a repair have told of the image.
use Rattle.std.proofs.Common.{◌≡◌, ℕ, ◌-◌, ◌*◌, ◌<◌, ◌≤◌, ◌⊎◌, inl, inr, false, List, [], length, Option, Some, Ok, sym, ap, ◌∙◌, subst, arith}
use Rattle.xfs_disk.specs.Blocks.{Image, bytes_of_block}
use Rattle.xfs_disk.specs.declared.stamp.Stamp.{Stamp}
use Rattle.xfs_geom.proofs.Bounds.{group_start}
use Rattle.xfs_geom.specs.Volumes.{Volume, volume_of, stated_volume}
use Rattle.xfs_geom.specs.declared.geometry.Geometry.{Geometry}
use Rattle.xfs_geom.specs.Election.{Vote, elected, super_of}
use Rattle.xfs_backups.proofs.Electing.{IsPrimary, is_primary}
use Rattle.xfs_mend.proofs.Repaired.{IsAccepted}
use Rattle.xfs_backups.specs.Backups.{backup_plan, first_disagreeing, start_of, steps_from}
use Rattle.xfs_mend.specs.Due.{IsOwed}
use Rattle.xfs_mend.specs.Rebuilding.{IsBackupFound}
use Rattle.xfs_mend.specs.Outcome.{IsRepairCause, IsDurableRepair, IsRepaired, RepairLeaves, LeavesOf, StopsBy, StopsOf, is_quiet}
use Rattle.xfs_writing.specs.Stopped.{IsStopped}
use Rattle.xfs_writing.specs.Writing.{Writes, IsPartly, written}
use Rattle.xfs_mend.specs.declared.outcome.Outcome.{Outcome}
use Rattle.xfs_mend.specs.declared.outcome.Outcome.TheVariants.{NoGeometry, Unsupported, DirtyLog, TooLarge, UnsupportedFile, Clean, Damaged, Repaired, NoRoom, ReadFault, WriteFault, NoMemory}
use Rattle.xfs_mend.specs.declared.outcome.Summary.TheVariants.{Backups, Rebuilt as Anew}

-- each group of an accepted geometry begins inside the image
starts_inside : (primary : List ℕ) (n : ℕ) (g : Geometry) → volume_of g ≡ stated_volume primary → g.dblocks ≤ n
    → (k : ℕ) → k < (stated_volume primary).agcount → start_of primary k < n
unfolding start_of
starts_inside primary n g stated inside k within =
    let size : g.agblocks ≡ (stated_volume primary).agblocks = ap (λ (v : Volume). v.agblocks) stated in
    let count : g.agcount ≡ (stated_volume primary).agcount = ap (λ (v : Volume). v.agcount) stated in
    let begins : k * g.agblocks < g.dblocks =
    group_start k g.agcount g.agblocks g.dblocks (subst (λ (n : ℕ). k < n) (sym count) within) g.shape.groups.last in
    subst (λ (w : ℕ). k * w < n) size (omega arith)

-- an accepted primary superblock that was elected
pub accepted : (image : Image) (v : Vote) (g : Geometry) → elected image ≡ Ok v → v.place ≡ 0 → length v.sector ≡ 512
    → volume_of g ≡ stated_volume v.sector → g.dblocks ≤ length image → IsAccepted image
accepted image v g elects from sector stated inside =
    let primary : IsPrimary image v = is_primary image v elects from in
    let same : v.sector ≡ super_of (bytes_of_block image 0) = primary.sector in
    let large : 0 < (stated_volume v.sector).agblocks =
    subst (λ (w : Volume). 0 < w.agblocks) stated (omega (arith, g.shape.groups.large)) in
    record {
      some = primary.some;
      sector = subst (λ (p : List ℕ). length p ≡ 512) same sector;
      accepted = primary.accepted;
      groups = subst (λ (p : List ℕ). 0 < (stated_volume p).agblocks) same large;
      inside =
          subst (λ (p : List ℕ). (k : ℕ) → k < (stated_volume p).agcount → start_of p k < length image) same
          (starts_inside v.sector (length image) g stated inside);
    }

-- the geometry that is elected is stated by the image's primary
pub stated_primary : (image : Image) (v : Vote) (g : Geometry) → elected image ≡ Ok v → v.place ≡ 0 → volume_of g ≡ stated_volume v.sector
    → volume_of g ≡ stated_volume (super_of (bytes_of_block image 0))
stated_primary image v g elects from stated = stated ∙ ap stated_volume (is_primary image v elects from).sector

-- the steps of the elected superblock are the image's plan
pub plan_elected : (image : Image) (v : Vote) (g : Geometry) → elected image ≡ Ok v → v.place ≡ 0 → volume_of g ≡ stated_volume v.sector
    → steps_from v.sector image 1 (g.agcount - 1) ≡ backup_plan image
plan_elected image v g elects from stated =
    let same : v.sector ≡ super_of (bytes_of_block image 0) = (is_primary image v elects from).sector in
    let count : g.agcount ≡ (stated_volume v.sector).agcount = ap (λ (w : Volume). w.agcount) stated in
    ap (λ (n : ℕ). steps_from v.sector image 1 (n - 1)) count
    ∙ ap (λ (p : List ℕ). steps_from p image 1 ((stated_volume p).agcount - 1)) same

-- the first backup that disagrees with the elected superblock is the image's
pub first_elected : (image : Image) (v : Vote) (g : Geometry) → elected image ≡ Ok v → v.place ≡ 0 → volume_of g ≡ stated_volume v.sector
    → first_disagreeing v.sector image 1 (g.agcount - 1) ≡ first_disagreeing (super_of (bytes_of_block image 0)) image 1 ((stated_volume (super_of (bytes_of_block image 0))).agcount - 1)
first_elected image v g elects from stated =
    let same : v.sector ≡ super_of (bytes_of_block image 0) = (is_primary image v elects from).sector in
    let count : g.agcount ≡ (stated_volume v.sector).agcount = ap (λ (w : Volume). w.agcount) stated in
    ap (λ (n : ℕ). first_disagreeing v.sector image 1 (n - 1)) count
    ∙ ap (λ (p : List ℕ). first_disagreeing p image 1 ((stated_volume p).agcount - 1)) same

-- what an outcome of the image's plan leaves, where a backup is found
pub written_leaves : (s : Stamp) (image : Image) (now : Option Image) (plan : Writes) (count : ℕ) (a : Outcome) → IsBackupFound image
    → (now ≡ Some (written (backup_plan image) image) → IsRepaired image now) → plan ≡ backup_plan image → IsOwed (λ due. due ≡ Repaired (Backups count)) a
    → LeavesOf plan image now a → RepairLeaves s image now a
written_leaves s image now plan count (Repaired (Backups n)) found repairs same owed writes = (found, repairs (writes ∙ ap (λ (p : Writes). Some (written p image)) same))
written_leaves s image now plan count (Repaired (Anew blocks kept cleared orphans)) found repairs same owed writes = absurd cc
written_leaves s image now plan count (WriteFault blocks) found repairs same owed writes = inl (found, subst (λ (p : Writes). IsPartly p image blocks now) same writes)
written_leaves s image now plan count NoGeometry found repairs same owed writes = writes
written_leaves s image now plan count (Unsupported word bits) found repairs same owed writes = writes
written_leaves s image now plan count DirtyLog found repairs same owed writes = writes
written_leaves s image now plan count (TooLarge what many) found repairs same owed writes = writes
written_leaves s image now plan count (UnsupportedFile ino what) found repairs same owed writes = writes
written_leaves s image now plan count Clean found repairs same owed writes = writes
written_leaves s image now plan count (Damaged finding) found repairs same owed writes = writes
written_leaves s image now plan count (NoRoom what) found repairs same owed writes = writes
written_leaves s image now plan count (ReadFault faults) found repairs same owed writes = writes
written_leaves s image now plan count NoMemory found repairs same owed writes = writes

-- what is kept by a disk that tells its stops
pub kept_before : (before after : Type 0) (now : Option Image) (may_leave : ℕ → List ℕ → Type 0) (a : Outcome) → (before → after)
    → IsDurableRepair after now may_leave a → IsDurableRepair before now may_leave a
kept_before before after now may_leave (Repaired summary) tells kept = λ told. kept (tells told)
kept_before before after now may_leave (WriteFault blocks) tells kept = kept
kept_before before after now may_leave NoGeometry tells kept = kept
kept_before before after now may_leave (Unsupported word bits) tells kept = kept
kept_before before after now may_leave DirtyLog tells kept = kept
kept_before before after now may_leave (TooLarge what count) tells kept = kept
kept_before before after now may_leave (UnsupportedFile ino what) tells kept = kept
kept_before before after now may_leave Clean tells kept = kept
kept_before before after now may_leave (Damaged finding) tells kept = kept
kept_before before after now may_leave (NoRoom what) tells kept = kept
kept_before before after now may_leave (ReadFault faults) tells kept = kept
kept_before before after now may_leave NoMemory tells kept = kept

-- the causes that are seen from an earlier count on
pub caused_before : (earlier before now w0 w1 w2 : ℕ) (a : Outcome) → earlier ≤ before → w0 ≤ w1 → IsRepairCause before now w1 w2 a → IsRepairCause earlier now w0 w2 a
caused_before earlier before now w0 w1 w2 (ReadFault faults) up more ((le, rose), told) = ((omega (arith, up, le), omega (arith, up, le, rose)), told)
caused_before earlier before now w0 w1 w2 (WriteFault blocks) up more (le, rose) = (omega (arith, more, le), omega (arith, more, le, rose))
caused_before earlier before now w0 w1 w2 (Repaired summary) up more cause = cause
caused_before earlier before now w0 w1 w2 NoGeometry up more cause = cause
caused_before earlier before now w0 w1 w2 (Unsupported word bits) up more cause = cause
caused_before earlier before now w0 w1 w2 DirtyLog up more cause = cause
caused_before earlier before now w0 w1 w2 (TooLarge what count) up more cause = cause
caused_before earlier before now w0 w1 w2 (UnsupportedFile ino what) up more cause = cause
caused_before earlier before now w0 w1 w2 Clean up more cause = cause
caused_before earlier before now w0 w1 w2 (Damaged finding) up more cause = cause
caused_before earlier before now w0 w1 w2 (NoRoom what) up more cause = cause
caused_before earlier before now w0 w1 w2 NoMemory up more cause = cause

-- what a stop leaves while these steps are written is what it leaves by the plan
pub stops_by_plan : (s : Stamp) (image : Image) (plan : Writes) (a : Outcome) (stopped : Image) (Before : Type 0) → IsBackupFound image → plan ≡ backup_plan image
    → Before ⊎ StopsOf plan image a stopped → Before ⊎ StopsBy s image a stopped
stops_by_plan s image plan a stopped Before found same (inl was) = inl was
stops_by_plan s image plan a stopped Before found same (inr (loud, is)) = inr (loud, inl (found, subst (λ (p : Writes). IsStopped [] p image stopped) same is))

-- where blocks were written, what a stop leaves of these writes is what it leaves of the same steps
pub stops_written : (image : Image) (writes steps : Writes) (a : Outcome) (stopped : Image) (Before : Type 0) → writes ≡ steps → is_quiet a ≡ false
    → Before ⊎ IsStopped [] writes image stopped → Before ⊎ StopsOf steps image a stopped
stops_written image writes steps a stopped Before same loud (inl was) = inl was
stops_written image writes steps a stopped Before same loud (inr is) = inr (loud, subst (λ (p : Writes). IsStopped [] p image stopped) same is)
