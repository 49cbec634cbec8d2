-- A repair of a consistent image leaves it as it is.
use Rattle.std.proofs.Common.{◌≡◌, ℕ, Bool, true, false, ◌&&◌, Option, Some, None, Result, Ok, Err, refl, sym, ap, ◌∙◌, subst}
use Rattle.xfs_disk.specs.Blocks.{Image}
use Rattle.xfs_disk.specs.declared.stamp.Stamp.{Stamp}
use Rattle.xfs_geom.specs.Election.{Vote, elected}
use Rattle.xfs_geom.specs.Volumes.{volume_of}
use Rattle.xfs_geom.specs.declared.election.ElectFault.{ElectFault}
use Rattle.xfs_geom.specs.declared.election.ElectFault.TheVariants as fault
use Rattle.xfs_geom.specs.declared.geometry.Geometry.{Geometry}
use Rattle.xfs_laws.specs.Lawful.{broken_law}
use Rattle.xfs_image.proofs.Consistent.{nothing_found, one_geometry}
use Rattle.xfs_image.specs.Consistent.{IsConsistent, finding}
use Rattle.xfs_image.specs.View.{log_of}
use Rattle.xfs_image.specs.declared.findings.Finding.{Finding}
use Rattle.xfs_scan.specs.Refused.{refused}
use Rattle.xfs_scan.specs.declared.faults.ScanFault.{ScanFault}
use Rattle.xfs_scan.specs.declared.faults.ScanFault.TheVariants as scan
use Rattle.xfs_mend.specs.Asked.{Asked}
use Rattle.xfs_backups.specs.Backups.{backup_plan}
use Rattle.xfs_mend.specs.Due.{IsAnswer, IsDueBehind, IsDueFound, IsDueRepair, IsDueVolume, IsOwed, asks_log, away_if, is_dirty, turned_away}
use Rattle.xfs_mend.specs.Outcome.{IsRebuilt, IsRepaired, RepairLeaves, StaysClean, is_quiet}
use Rattle.xfs_mend.specs.Rebuilding.{rebuild_writes}
use Rattle.xfs_mend.specs.declared.outcome.Outcome.{Outcome}
use Rattle.xfs_mend.specs.declared.outcome.Outcome.TheVariants.{NoGeometry, Unsupported, DirtyLog, TooLarge, UnsupportedFile, Clean, Damaged, Repaired, NoRoom, ReadFault, WriteFault, NoMemory}
use Rattle.xfs_mend.specs.declared.outcome.Summary.{Summary}
use Rattle.xfs_writing.specs.Writing.{written}

-- a repair is no other outcome
not_geometry : (summary : Summary) → Repaired summary ≡ NoGeometry → ⊥
not_geometry summary same = cc

not_unsupported : (summary : Summary) (word bits : ℕ) → Repaired summary ≡ Unsupported word bits → ⊥
not_unsupported summary word bits same = cc

not_dirty : (summary : Summary) → Repaired summary ≡ DirtyLog → ⊥
not_dirty summary same = cc

not_large : (summary : Summary) (what count : ℕ) → Repaired summary ≡ TooLarge what count → ⊥
not_large summary what count same = cc

not_file : (summary : Summary) (ino what : ℕ) → Repaired summary ≡ UnsupportedFile ino what → ⊥
not_file summary ino what same = cc

not_clean : (summary : Summary) → Repaired summary ≡ Clean → ⊥
not_clean summary same = cc

-- no repair is due where nothing is found
none_away : (summary : Summary) (dirty : Bool) (due : Option ScanFault) → IsDueBehind (away_if dirty due) (λ outcome. outcome ≡ Clean) (Repaired summary) → ⊥
none_away summary true due same = not_dirty summary same
none_away summary false None same = not_clean summary same
none_away summary false (Some scan.ReadFault) same = not_clean summary same
none_away summary false (Some (scan.TooLarge what count)) same = not_large summary what count same
none_away summary false (Some (scan.UnsupportedFile ino what)) same = not_file summary ino what same
none_away summary false (Some scan.NoMemory) same = not_clean summary same

none_due : (o : Asked) (g : Geometry) (s : Stamp) (image : Image) (summary : Summary) → finding broken_law g image ≡ None → IsDueVolume o g s image (Repaired summary) → ⊥
unfolding IsDueVolume turned_away
none_due o g s image summary none due =
    let dirty : Bool = asks_log o && is_dirty (log_of (volume_of g) image) in
    none_away summary dirty (refused (volume_of g) image)
    (subst (λ (found : Option Finding). IsDueBehind (away_if dirty (refused (volume_of g) image)) (IsDueFound o g s image found) (Repaired summary)) none due)

not_repaired : (o : Asked) (s : Stamp) (g : Geometry) (image : Image) (summary : Summary) (r : Result Vote ElectFault) → IsConsistent broken_law g image
    → IsAnswer o s image r (Repaired summary) → ⊥
not_repaired o s g image summary (Ok vote) is answer =
    let same : answer.geometry ≡ g = one_geometry answer.geometry g image answer.elected is.elected in
    none_due o answer.geometry s image summary (ap (λ (h : Geometry). finding broken_law h image) same ∙ nothing_found broken_law g image is) answer.is
not_repaired o s g image summary (Err (fault.Unsupported word bits)) is answer = not_unsupported summary word bits answer
not_repaired o s g image summary (Err fault.NoGeometry) is answer = not_geometry summary answer
not_repaired o s g image summary (Err fault.ReadFault) is answer = not_geometry summary answer
not_repaired o s g image summary (Err fault.NoMemory) is answer = not_geometry summary answer

-- so nothing is written
pub stays_quiet : (o : Asked) (s : Stamp) (g : Geometry) (image : Image) (outcome : Outcome) → IsConsistent broken_law g image → IsDueRepair o s image outcome
    → is_quiet outcome ≡ true
stays_quiet o s g image (Repaired summary) is due = absurd (not_repaired o s g image summary (elected image) is due)
stays_quiet o s g image (WriteFault blocks) is due = absurd (not_repaired o s g image due.0 (elected image) is due.2)
stays_quiet o s g image NoGeometry is due = refl
stays_quiet o s g image (Unsupported word bits) is due = refl
stays_quiet o s g image DirtyLog is due = refl
stays_quiet o s g image (TooLarge what count) is due = refl
stays_quiet o s g image (UnsupportedFile ino what) is due = refl
stays_quiet o s g image Clean is due = refl
stays_quiet o s g image (Damaged finding) is due = refl
stays_quiet o s g image (NoRoom what) is due = refl
stays_quiet o s g image (ReadFault faults) is due = refl
stays_quiet o s g image NoMemory is due = refl

quiet_leaves : (s : Stamp) (image : Image) (now : Option Image) (outcome : Outcome) → is_quiet outcome ≡ true → RepairLeaves s image now outcome → now ≡ Some image
quiet_leaves s image now (Repaired summary) quiet leaves = absurd cc
quiet_leaves s image now (WriteFault blocks) quiet leaves = absurd cc
quiet_leaves s image now NoGeometry quiet leaves = leaves
quiet_leaves s image now (Unsupported word bits) quiet leaves = leaves
quiet_leaves s image now DirtyLog quiet leaves = leaves
quiet_leaves s image now (TooLarge what count) quiet leaves = leaves
quiet_leaves s image now (UnsupportedFile ino what) quiet leaves = leaves
quiet_leaves s image now Clean quiet leaves = leaves
quiet_leaves s image now (Damaged finding) quiet leaves = leaves
quiet_leaves s image now (NoRoom what) quiet leaves = leaves
quiet_leaves s image now (ReadFault faults) quiet leaves = leaves
quiet_leaves s image now NoMemory quiet leaves = leaves

pub leaves_it : (o : Asked) (s : Stamp) (g : Geometry) (image : Image) (now : Option Image) (outcome : Outcome) → IsConsistent broken_law g image
    → IsDueRepair o s image outcome → RepairLeaves s image now outcome → now ≡ Some image
leaves_it o s g image now outcome is due leaves = quiet_leaves s image now outcome (stays_quiet o s g image outcome is due) leaves

one_image : (x y : Image) → Some x ≡ Some y → x ≡ y
one_image x y e = cc

left_is : (image left : Image) → IsRepaired image (Some left) → StaysClean left
left_is image left is =
    let same : left ≡ written (backup_plan image) image = one_image left (written (backup_plan image) image) is.planned in
    subst StaysClean (sym same) is.stays

pub left_stays : (o : Asked) (s : Stamp) (image left : Image) (now : Option Image) (outcome : Outcome) → IsRepaired image (Some left) → IsDueRepair o s left outcome
    → RepairLeaves s left now outcome → now ≡ Some left
left_stays o s image left now outcome is due leaves = quiet_leaves s left now outcome ((left_is image left is).quiet o s outcome due) leaves

pub left_clean : (o : Asked) (s : Stamp) (image left : Image) (outcome : Outcome) → IsRepaired image (Some left) → IsDueRepair o s left outcome
    → IsOwed (λ due. due ≡ Clean) outcome
left_clean o s image left outcome is due = (left_is image left is).only o s outcome due

-- so it is with what a rebuild left
pub rebuilt_stays : (o : Asked) (s t : Stamp) (image left : Image) (now : Option Image) (blocks kept cleared orphans : ℕ) (outcome : Outcome)
    → IsRebuilt s image (Some left) blocks kept cleared orphans → IsDueRepair o t left outcome → RepairLeaves t left now outcome → now ≡ Some left
rebuilt_stays o s t image left now blocks kept cleared orphans outcome is due leaves =
    let same : left ≡ written (rebuild_writes is.r) image = one_image left (written (rebuild_writes is.r) image) is.is in
    quiet_leaves t left now outcome (is.stays o t outcome (subst (λ (x : Image). IsDueRepair o t x outcome) same due)) leaves
