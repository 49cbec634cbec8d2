-- What is decided of an image.
use Rattle.std.proofs.Common.{◌≡◌, ◌≢◌, ℕ, ◌-◌, ◌*◌, ◌==◌, ◌&&◌, Bool, true, false, not, List, length, Option, Some, None, Result, Ok, Err, IfOk, refl, sym, ap, ◌∙◌, subst}
use Rattle.std.proofs.lemmas.Bool.{and_from, eq-eqb, eqb-true}
use Rattle.std.specs.List.{find, range_with_len}
use Rattle.xfs_disk.specs.Blocks.{Image}
use Rattle.xfs_disk.specs.declared.stamp.Stamp.{Stamp}
use Rattle.xfs_geom.specs.Superblocks.{is_agreeing}
use Rattle.xfs_geom.specs.Volumes.{Volume, stated_volume, volume_of}
use Rattle.xfs_geom.specs.declared.election.ElectFault.{ElectFault}
use Rattle.xfs_geom.specs.declared.election.ElectFault.TheVariants as fault
use Rattle.xfs_geom.specs.declared.geometry.Geometry.{Geometry}
use Rattle.xfs_geom.specs.Election.{Vote, choice, elected, same_volume}
use Rattle.xfs_geom.proofs.Votes.{same_itself}
use Rattle.xfs_volume.specs.declared.catalogs.Catalog.{Catalog}
use Rattle.xfs_volume.specs.declared.findings.Law.{Law}
use Rattle.xfs_laws.specs.Lawful.{broken_law}
use Rattle.xfs_image.proofs.Backups.{only_backups}
use Rattle.xfs_image.proofs.Consistent.{from_backup}
use Rattle.xfs_image.specs.Consistent.{HasBackupFault, IsElected, backup_differs, backup_fault, backup_found, finding, is_from_primary, is_primary, law_found, view_found}
use Rattle.xfs_image.specs.View.{view}
use Rattle.xfs_image.specs.declared.findings.Finding.{Finding}
use Rattle.xfs_image.specs.declared.findings.Finding.TheVariants as Found
use Rattle.xfs_mend.proofs.Owing.{owed_as}
use Rattle.xfs_mend.proofs.Repaired.{first_sector}
use Rattle.xfs_rename.specs.xfs_rebuild.declared.planning.Rebuilt.{Rebuilt}
use Rattle.xfs_scan.specs.Evidence.{IsEvidence}
use Rattle.xfs_scan.specs.declared.evidence.Evidence.{Evidence}
use Rattle.xfs_backups.specs.Backups.{backup_plan, disagrees, first_disagreeing, start_of}
use Rattle.xfs_mend.specs.Due.{IsAnswer, IsDueBehind, IsDueFound, IsDueRepair, IsDueRepaired, IsDueUnless, IsDueVolume, IsOwed, turned_away}
use Rattle.xfs_mend.specs.Rebuilding.{IsBackupFound, IsDueRebuild, IsRepairPlan, IsPlannedRebuild, is_backup}
use Rattle.xfs_writing.specs.Writing.{Writes}
use Rattle.xfs_mend.specs.declared.outcome.Outcome.{Outcome}
use Rattle.xfs_mend.specs.declared.outcome.Outcome.TheVariants.{NoGeometry, Unsupported, Damaged, Repaired}
use Rattle.xfs_mend.specs.Asked.{Asked}
use Rattle.xfs_mend.specs.declared.outcome.Summary.TheVariants.{Backups}

-- what follows of a value that is there
pub if_ok : {A E : Type 0} (r : Result A E) (P Q : A → Type 0) → ((a : A) → P a → Q a) → IfOk r P → IfOk r Q
if_ok (Ok a) P Q step held = step a held
if_ok (Err e) P Q step held = held

-- what is elected states a volume that is a geometry's
abbrev pub is_elected : (g : Geometry) (image : Image) (vote : Vote) → elected image ≡ Ok vote → volume_of g ≡ stated_volume vote.sector → IsElected (volume_of g) image
is_elected g image vote elects stated =
    record { vote = vote; due = elects; states = subst (λ (v : Volume). same_volume v (volume_of g) ≡ true) stated (same_itself (volume_of g)) }

-- a group whose backup differs does so by either word
same_test : (primary : List ℕ) (image : Image) (ag : ℕ) → disagrees primary image ag ≡ backup_differs (stated_volume primary) image ag
unfolding start_of
same_test primary image ag =
    ap (λ (sector : List ℕ). not (is_agreeing (stated_volume primary) sector)) (sym (first_sector image (ag * (stated_volume primary).agblocks)))

-- the first backup that does not agree, by either word
pub same_first : (v : Volume) (primary : List ℕ) (image : Image) → v ≡ stated_volume primary
    → first_disagreeing primary image 1 (v.agcount - 1) ≡ backup_fault v image
unfolding backup_fault
same_first v primary image stated =
    (λ i. find (λ ag. same_test primary image ag i) (range_with_len 1 (v.agcount - 1)))
    ∙ ap (λ (w : Volume). find (backup_differs w image) (range_with_len 1 (v.agcount - 1))) (sym stated)

-- the parts and the laws come before the backups
law_first : (law : Option Law) (later : Option Finding) (found : Finding) → law_found law None ≡ Some found → law_found law later ≡ Some found
law_first None later found same = cc
law_first (Some law) later found same = same

law_later : (law : Option Law) (later : Option Finding) → law_found law None ≡ None → law_found law later ≡ later
law_later None later same = refl
law_later (Some law) later same = cc

view_first : (seen : Result Catalog Finding) (later : Option Finding) (found : Finding) → view_found broken_law seen None ≡ Some found → view_found broken_law seen later ≡ Some found
view_first (Err part) later found same = same
view_first (Ok c) later found same = law_first (broken_law c) later found same

view_later : (seen : Result Catalog Finding) (later : Option Finding) → view_found broken_law seen None ≡ None → view_found broken_law seen later ≡ later
view_later (Err part) later same = cc
view_later (Ok c) later same = law_later (broken_law c) later same

primary_elected : (v : Volume) (image : Image) (is : IsElected v image) → is.vote.place ≡ 0 → is_from_primary v image ≡ true
unfolding is_from_primary
primary_elected v image is first =
    ap (is_primary v) is.due ∙ and_from (is.vote.place == 0) (same_volume (choice is.vote) v) (eq-eqb is.vote.place 0 first) is.states

-- what is found of a volume that is elected from block 0
found_by_view : (g : Geometry) (image : Image) (is : IsElected (volume_of g) image) → is.vote.place ≡ 0
    → finding broken_law g image ≡ view_found broken_law (view g image) (backup_found (backup_fault (volume_of g) image))
unfolding finding
found_by_view g image is first = rw (primary_elected (volume_of g) image is first) refl

pub found_in_view : (g : Geometry) (image : Image) (vote : Vote) (seen : Result Catalog Finding) (found : Finding) → elected image ≡ Ok vote
    → volume_of g ≡ stated_volume vote.sector → vote.place ≡ 0 → seen ≡ view g image → Some found ≡ view_found broken_law seen None
    → Some found ≡ finding broken_law g image
found_in_view g image vote seen found elects stated first same judged =
    sym (found_by_view g image (is_elected g image vote elects stated) first
    ∙ ap (λ (r : Result Catalog Finding). view_found broken_law r (backup_found (backup_fault (volume_of g) image))) (sym same)
    ∙ view_first seen (backup_found (backup_fault (volume_of g) image)) found (sym judged))

pub found_in_backups : (g : Geometry) (image : Image) (vote : Vote) (seen : Result Catalog Finding) (found : Option Finding) → elected image ≡ Ok vote
    → volume_of g ≡ stated_volume vote.sector → vote.place ≡ 0 → seen ≡ view g image → None ≡ view_found broken_law seen None
    → found ≡ backup_found (first_disagreeing vote.sector image 1 (g.agcount - 1))
    → found ≡ finding broken_law g image
found_in_backups g image vote seen found elects stated first same judged backup =
    backup ∙ ap backup_found (same_first (volume_of g) vote.sector image stated)
    ∙ sym (found_by_view g image (is_elected g image vote elects stated) first
    ∙ ap (λ (r : Result Catalog Finding). view_found broken_law r (backup_found (backup_fault (volume_of g) image))) (sym same)
    ∙ view_later seen (backup_found (backup_fault (volume_of g) image)) (sym judged))

pub found_first : (g : Geometry) (image : Image) (vote : Vote) → elected image ≡ Ok vote
    → volume_of g ≡ stated_volume vote.sector → vote.place ≢ 0 → Some (Found.Part 0 0) ≡ finding broken_law g image
found_first g image vote elects stated other = sym (from_backup broken_law g image (is_elected g image vote elects stated) other)

-- where a backup is found, the primary superblock is elected
some_vote : (x y : Vote) → (r : Result Vote ElectFault) → r ≡ Ok x → r ≡ Ok y → x ≡ y
some_vote x y r a b = cc

pub from_primary : (g : Geometry) (image : Image) (vote : Vote) (found : Finding) → elected image ≡ Ok vote → Some found ≡ finding broken_law g image
    → is_backup found ≡ true → vote.place ≡ 0
from_primary g image vote (Found.Law law) elects same backup = cc
from_primary g image vote (Found.Part part place) elects same backup =
    let number : part ≡ 10 = eqb-true part 10 backup in
    let fault : HasBackupFault broken_law g image place =
    only_backups broken_law g image place (sym same ∙ ap (λ (p : ℕ). Some (Found.Part p place)) number) in
    ap (λ (v : Vote). v.place) (some_vote vote fault.elected.vote (elected image) elects fault.elected.due) ∙ fault.first

-- so a backup is found, or something else, and then what is planned of the evidence is planned of the image
pub has_backup : (g : Geometry) (image : Image) (found : Finding) → IsElected (volume_of g) image → Some found ≡ finding broken_law g image
    → is_backup found ≡ true → IsBackupFound image
has_backup g image (Found.Law law) is same backup = absurd cc
has_backup g image (Found.Part part place) is same backup =
    let number : part ≡ 10 = eqb-true part 10 backup in
    (place, record { geometry = g; elected = is; is = sym same ∙ ap (λ (p : ℕ). Some (Found.Part p place)) number })

pub is_planned : (g : Geometry) (s : Stamp) (image : Image) (vote : Vote) (found : Finding) (e : Evidence) (r : Rebuilt) (orphans : ℕ) → elected image ≡ Ok vote
    → volume_of g ≡ stated_volume vote.sector → Some found ≡ finding broken_law g image → is_backup found ≡ false → IsEvidence g image e
    → IsRepairPlan g vote.sector s image e r orphans → IsPlannedRebuild s image r orphans
is_planned g s image vote found e r orphans elects stated same other evidence is = record {
  found = found;
  has = record { geometry = g; elected = is_elected g image vote elects stated; is = sym same };
  other = other;
  e = e;
  evidence = evidence;
  is = is;
}

-- a volume that is not rebuilt though it is to be repaired has a backup that does not agree
pub kept_backup : (check backup : Bool) → (not check && not backup) ≡ false → check ≡ false → backup ≡ true
kept_backup true backup kept repairs = absurd cc
kept_backup false true kept repairs = refl
kept_backup false false kept repairs = absurd cc

pub is_repaired_anew : (check backup : Bool) → (not check && not backup) ≡ true → (check ≡ false) × (backup ≡ false)
is_repaired_anew true backup asks = absurd cc
is_repaired_anew false true asks = absurd cc
is_repaired_anew false false asks = (refl, refl)

-- what is due to a volume that is turned away, and to any other
pub due_away : (o : Asked) (g : Geometry) (s : Stamp) (image : Image) (outcome : Outcome) → turned_away o (volume_of g) image ≡ Some outcome
    → IsDueVolume o g s image outcome
unfolding IsDueVolume
due_away o g s image outcome away =
    subst (λ (r : Option Outcome). IsDueBehind r (IsDueFound o g s image (finding broken_law g image)) outcome) (sym away) refl

pub due_seen : (o : Asked) (g : Geometry) (s : Stamp) (image : Image) (found : Option Finding) (outcome : Outcome) → turned_away o (volume_of g) image ≡ None
    → found ≡ finding broken_law g image → IsDueFound o g s image found outcome → IsDueVolume o g s image outcome
unfolding IsDueVolume
due_seen o g s image found outcome stays same due =
    subst (λ (r : Option Outcome). IsDueBehind r (IsDueFound o g s image (finding broken_law g image)) outcome) (sym stays)
    (subst (λ (f : Option Finding). IsDueFound o g s image f outcome) same due)

-- a check tells what is found; else a repair of backups is due where one is found, and a rebuild where anything else is
pub due_damaged : (o : Asked) (g : Geometry) (s : Stamp) (image : Image) (found : Finding) → o.check ≡ true → IsDueFound o g s image (Some found) (Damaged found)
due_damaged o g s image found checks = subst (λ (b : Bool). IsDueUnless b g s image found (Damaged found)) (sym checks) refl

pub due_of_plan : (o : Asked) (g : Geometry) (s : Stamp) (image : Image) (found : Finding) (plan : Writes) (outcome : Outcome) → o.check ≡ false
    → is_backup found ≡ true → plan ≡ backup_plan image → outcome ≡ Repaired (Backups (length plan)) → IsDueFound o g s image (Some found) outcome
due_of_plan o g s image found plan outcome repairs backup same is =
    subst (λ (b : Bool). IsDueUnless b g s image found outcome) (sym repairs)
    (subst (λ (b : Bool). IsDueRepaired b g s image outcome) (sym backup) (is ∙ ap (λ (p : Writes). Repaired (Backups (length p))) same))

pub due_anew : (o : Asked) (g : Geometry) (s : Stamp) (image : Image) (found : Finding) (outcome : Outcome) → o.check ≡ false → is_backup found ≡ false
    → IsDueRebuild g s image outcome → IsDueFound o g s image (Some found) outcome
due_anew o g s image found outcome repairs other due =
    subst (λ (b : Bool). IsDueUnless b g s image found outcome) (sym repairs)
    (subst (λ (b : Bool). IsDueRepaired b g s image outcome) (sym other) due)

-- what is owed by the geometry that is elected is due
pub answers : (o : Asked) (g : Geometry) (s : Stamp) (image : Image) (vote : Vote) (outcome : Outcome) → elected image ≡ Ok vote → IsElected (volume_of g) image
    → IsDueVolume o g s image outcome → IsAnswer o s image (elected image) outcome
answers o g s image vote outcome elects is due =
    subst (λ (r : Result Vote ElectFault). IsAnswer o s image r outcome) (sym elects) (record { geometry = g; elected = is; is = due })

pub due_by : (o : Asked) (g : Geometry) (s : Stamp) (image : Image) (vote : Vote) (outcome : Outcome) → elected image ≡ Ok vote → IsElected (volume_of g) image
    → IsOwed (IsDueVolume o g s image) outcome → IsDueRepair o s image outcome
due_by o g s image vote outcome elects is owed =
    owed_as (IsDueVolume o g s image) (IsAnswer o s image (elected image)) outcome (λ due volume. answers o g s image vote due elects is volume) owed

-- what the election refuses is due
pub due_unsupported : (o : Asked) (s : Stamp) (image : Image) (word bits : ℕ) → elected image ≡ Err (fault.Unsupported word bits) → IsDueRepair o s image (Unsupported word bits)
due_unsupported o s image word bits refused =
    subst (λ (r : Result Vote ElectFault). IsAnswer o s image r (Unsupported word bits)) (sym refused) refl

pub due_no_geometry : (o : Asked) (s : Stamp) (image : Image) → elected image ≡ Err fault.NoGeometry → IsDueRepair o s image NoGeometry
due_no_geometry o s image refused = subst (λ (r : Result Vote ElectFault). IsAnswer o s image r NoGeometry) (sym refused) refl
