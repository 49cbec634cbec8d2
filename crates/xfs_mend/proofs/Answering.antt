-- One outcome is due to an image, clean where it is consistent.
use Rattle.std.proofs.Common.{◌≡◌, ◌&&◌, ℕ, length, Bool, true, false, Option, Some, None, Result, Ok, Err, refl, sym, ap, ◌∙◌, subst}
use Rattle.xfs_disk.specs.Blocks.{Image}
use Rattle.xfs_disk.specs.declared.stamp.Stamp.{Stamp}
use Rattle.xfs_geom.specs.Election.{Vote, elected}
use Rattle.xfs_geom.specs.Volumes.{volume_of}
use Rattle.xfs_geom.specs.declared.election.ElectFault.{ElectFault}
use Rattle.xfs_geom.specs.declared.election.ElectFault.TheVariants as fault
use Rattle.xfs_geom.specs.declared.geometry.Geometry.{Geometry}
use Rattle.xfs_laws.specs.Lawful.{broken_law}
use Rattle.xfs_image.proofs.Consistent.{consistent, nothing_found, one_geometry}
use Rattle.xfs_image.specs.Consistent.{HasFinding, IsConsistent, IsConsistentImage, finding}
use Rattle.xfs_image.specs.View.{log_of}
use Rattle.xfs_image.specs.declared.findings.Finding.{Finding}
use Rattle.xfs_scan.specs.Refused.{refused}
use Rattle.xfs_scan.specs.declared.faults.ScanFault.{ScanFault}
use Rattle.xfs_scan.specs.declared.faults.ScanFault.TheVariants as scan
use Rattle.xfs_backups.specs.Backups.{backup_plan}
use Rattle.xfs_mend.proofs.Deciding.{answers, due_damaged, due_seen}
use Rattle.xfs_mend.proofs.OneRebuild.{one_rebuild}
use Rattle.xfs_mend.specs.Asked.{Asked}
use Rattle.xfs_mend.specs.Due.{IsAnswer, IsDueBehind, IsDueFound, IsDueRepaired, IsDueUnless, IsDueVolume, asks_log, away_if, is_dirty, turned_away, uncounted}
use Rattle.xfs_mend.specs.Rebuilding.{is_backup}
use Rattle.xfs_mend.specs.declared.outcome.Outcome.{Outcome}
use Rattle.xfs_mend.specs.declared.outcome.Outcome.TheVariants.{NoGeometry, Unsupported, DirtyLog, TooLarge, UnsupportedFile, Clean, Damaged, Repaired}
use Rattle.xfs_mend.specs.declared.outcome.Summary.TheVariants.{Backups}

both_same : (due a b : Outcome) → a ≡ due → b ≡ due → uncounted a ≡ uncounted b
both_same due a b first second = ap uncounted (first ∙ sym second)

one_repaired : (backup : Bool) (g : Geometry) (s : Stamp) (image : Image) (a b : Outcome) → IsDueRepaired backup g s image a → IsDueRepaired backup g s image b
    → uncounted a ≡ uncounted b
one_repaired true g s image a b first second = both_same (Repaired (Backups (length (backup_plan image)))) a b first second
one_repaired false g s image a b first second = one_rebuild g s image a b first second

one_unless : (check : Bool) (g : Geometry) (s : Stamp) (image : Image) (found : Finding) (a b : Outcome)
    → IsDueUnless check g s image found a → IsDueUnless check g s image found b → uncounted a ≡ uncounted b
one_unless true g s image found a b first second = both_same (Damaged found) a b first second
one_unless false g s image found a b first second = one_repaired (is_backup found) g s image a b first second

one_found : (o : Asked) (g : Geometry) (s : Stamp) (image : Image) (found : Option Finding) (a b : Outcome)
    → IsDueFound o g s image found a → IsDueFound o g s image found b → uncounted a ≡ uncounted b
one_found o g s image None a b first second = both_same Clean a b first second
one_found o g s image (Some found) a b first second = one_unless o.check g s image found a b first second

one_behind : (away : Option Outcome) (later : Outcome → Type 0) → ((a b : Outcome) → later a → later b → uncounted a ≡ uncounted b) → (a b : Outcome)
    → IsDueBehind away later a → IsDueBehind away later b → uncounted a ≡ uncounted b
one_behind (Some away) later one a b first second = both_same away a b first second
one_behind None later one a b first second = one a b first second

one_due : (o : Asked) (g : Geometry) (s : Stamp) (image : Image) (a b : Outcome) → IsDueVolume o g s image a → IsDueVolume o g s image b → uncounted a ≡ uncounted b
unfolding IsDueVolume
one_due o g s image a b first second =
    one_behind (turned_away o (volume_of g) image) (IsDueFound o g s image (finding broken_law g image)) (one_found o g s image (finding broken_law g image)) a b first second

pub one_answer : (o : Asked) (s : Stamp) (image : Image) (r : Result Vote ElectFault) (a b : Outcome) → IsAnswer o s image r a → IsAnswer o s image r b
    → uncounted a ≡ uncounted b
one_answer o s image (Ok vote) a b first second =
    let same : second.geometry ≡ first.geometry = one_geometry second.geometry first.geometry image second.elected first.elected in
    one_due o first.geometry s image a b first.is (subst (λ (g : Geometry). IsDueVolume o g s image b) same second.is)
one_answer o s image (Err (fault.Unsupported word bits)) a b first second = ap uncounted (first ∙ sym second)
one_answer o s image (Err fault.NoGeometry) a b first second = ap uncounted (first ∙ sym second)
one_answer o s image (Err fault.ReadFault) a b first second = ap uncounted (first ∙ sym second)
one_answer o s image (Err fault.NoMemory) a b first second = ap uncounted (first ∙ sym second)

-- only where nothing is found the outcome is clean; the plan of a repair is a number here, since it unfolds far
not_backups : (count : ℕ) → Clean ≡ Repaired (Backups count) → ⊥
not_backups count same = cc

not_geometry : Clean ≡ NoGeometry → ⊥
not_geometry same = cc

not_unsupported : (word bits : ℕ) → Clean ≡ Unsupported word bits → ⊥
not_unsupported word bits same = cc

not_dirty : Clean ≡ DirtyLog → ⊥
not_dirty same = cc

not_large : (what count : ℕ) → Clean ≡ TooLarge what count → ⊥
not_large what count same = cc

not_file : (ino what : ℕ) → Clean ≡ UnsupportedFile ino what → ⊥
not_file ino what same = cc

not_damaged : (found : Finding) → Clean ≡ Damaged found → ⊥
not_damaged found same = cc

never_repaired : (backup : Bool) (g : Geometry) (s : Stamp) (image : Image) → IsDueRepaired backup g s image Clean → ⊥
never_repaired true g s image due = not_backups (length (backup_plan image)) due
never_repaired false g s image due = due

never_unless : (check : Bool) (g : Geometry) (s : Stamp) (image : Image) (found : Finding) → IsDueUnless check g s image found Clean → ⊥
never_unless true g s image found due = not_damaged found due
never_unless false g s image found due = never_repaired (is_backup found) g s image due

nothing : (o : Asked) (g : Geometry) (s : Stamp) (image : Image) (found : Option Finding) → IsDueFound o g s image found Clean → found ≡ None
nothing o g s image None due = refl
nothing o g s image (Some found) due = absurd (never_unless o.check g s image found due)

not_away : (dirty : Bool) (due : Option ScanFault) (later : Outcome → Type 0) → IsDueBehind (away_if dirty due) later Clean → later Clean
not_away true due later same = absurd (not_dirty same)
not_away false None later same = same
not_away false (Some scan.ReadFault) later same = same
not_away false (Some (scan.TooLarge what count)) later same = absurd (not_large what count same)
not_away false (Some (scan.UnsupportedFile ino what)) later same = absurd (not_file ino what same)
not_away false (Some scan.NoMemory) later same = same

nothing_in : (o : Asked) (g : Geometry) (s : Stamp) (image : Image) → IsDueVolume o g s image Clean → finding broken_law g image ≡ None
unfolding IsDueVolume turned_away
nothing_in o g s image due =
    nothing o g s image (finding broken_law g image)
    (not_away (asks_log o && is_dirty (log_of (volume_of g) image)) (refused (volume_of g) image) (IsDueFound o g s image (finding broken_law g image)) due)

pub only_clean : (o : Asked) (s : Stamp) (image : Image) (r : Result Vote ElectFault) → IsAnswer o s image r Clean → IsConsistentImage broken_law image
only_clean o s image (Ok vote) answer = (answer.geometry, consistent broken_law answer.geometry image (nothing_in o answer.geometry s image answer.is))
only_clean o s image (Err (fault.Unsupported word bits)) answer = absurd (not_unsupported word bits answer)
only_clean o s image (Err fault.NoGeometry) answer = absurd (not_geometry answer)
only_clean o s image (Err fault.ReadFault) answer = absurd (not_geometry answer)
only_clean o s image (Err fault.NoMemory) answer = absurd (not_geometry answer)

pub consistent_answer : (o : Asked) (s : Stamp) (g : Geometry) (image : Image) → IsConsistent broken_law g image → turned_away o (volume_of g) image ≡ None
    → IsAnswer o s image (elected image) Clean
consistent_answer o s g image is stays =
    answers o g s image is.elected.vote Clean is.elected.due is.elected (due_seen o g s image None Clean stays (sym (nothing_found broken_law g image is)) refl)

pub found_answer : (o : Asked) (s : Stamp) (image : Image) (found : Finding) (has : HasFinding broken_law image found) → turned_away o (volume_of has.geometry) image ≡ None
    → o.check ≡ true → IsAnswer o s image (elected image) (Damaged found)
found_answer o s image found has stays checks =
    answers o has.geometry s image has.elected.vote (Damaged found) has.elected.due has.elected
    (due_seen o has.geometry s image (Some found) (Damaged found) stays (sym has.is) (due_damaged o has.geometry s image found checks))
