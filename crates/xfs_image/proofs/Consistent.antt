-- An image is consistent exactly where nothing is found.
use Rattle.std.proofs.Common.{◌≡◌, ◌≢◌, ◌⊎◌, inl, inr, ℕ, ◌-◌, ◌≤◌, ◌<◌, Bool, true, false, not, ◌==◌, ◌&&◌, if◌then◌else◌, Option, Some, None, Result, Ok, Err, refl, sym, ap, ◌∙◌, arith}
use Rattle.std.proofs.lemmas.Bool.{and_parts, and_from, eqb-true, eq-eqb}
use Rattle.xfs_disk.specs.Blocks.{Image}
use Rattle.xfs_geom.proofs.Votes.{same_equal}
use Rattle.xfs_geom.specs.Election.{Vote, choice, elected, same_volume}
use Rattle.xfs_geom.specs.Volumes.{Volume, volume_of}
use Rattle.xfs_geom.specs.declared.election.ElectFault.{ElectFault}
use Rattle.xfs_geom.specs.declared.geometry.Geometry.{Geometry}
use Rattle.xfs_volume.specs.declared.catalogs.Catalog.{Catalog}
use Rattle.xfs_volume.specs.declared.findings.Law.{Law}
use Rattle.xfs_image.specs.Consistent.{HasFinding, IsConsistent, IsConsistentImage, IsElected, backup_agrees, backup_differs, backup_fault, backup_found, finding, is_from_primary, is_primary, law_found, view_found}
use Rattle.xfs_image.specs.View.{view}
use Rattle.xfs_image.specs.declared.findings.Finding.{Finding}
use Rattle.xfs_image.specs.declared.findings.Finding.TheVariants as Found
use Rattle.xfs_image.proofs.Geometries.{same_geometry}
use Rattle.xfs_image.proofs.Ranges.{no_some, none_passes, none_found}

pub not_false : (b : Bool) → not b ≡ false → b ≡ true
not_false true e = refl
not_false false e = sym e

-- the election, as a test and in words
pub elected_of : (v : Volume) (image : Image) (r : Result Vote ElectFault) → elected image ≡ r → is_primary v r ≡ true
    → (is : IsElected v image) × (is.vote.place ≡ 0)
elected_of v image (Ok vote) e h =
    let parts = and_parts (vote.place == 0) (same_volume (choice vote) v) h in
    (record { vote = vote; due = e; states = parts.1 }, eqb-true vote.place 0 parts.0)
elected_of v image (Err fault) e h = absurd cc

primary_elected : (v : Volume) (image : Image) (is : IsElected v image) → is.vote.place ≡ 0 → is_from_primary v image ≡ true
unfolding is_from_primary
primary_elected v image is first =
    ap (is_primary v) is.due ∙ and_from (is.vote.place == 0) (same_volume (choice is.vote) v) (eq-eqb is.vote.place 0 first) is.states

backup_elected : (v : Volume) (image : Image) (is : IsElected v image) → is.vote.place ≢ 0 → is_from_primary v image ≡ false
unfolding is_from_primary
backup_elected v image is other = ap (is_primary v) is.due ∙ by_case (is.vote.place == 0) refl
  where
    by_case : (b : Bool) → (is.vote.place == 0) ≡ b → (b && same_volume (choice is.vote) v) ≡ false
    by_case true e = absurd (other (eqb-true is.vote.place 0 e))
    by_case false e = refl

-- all backups agree where none is found that does not
all_agree : (v : Volume) (image : Image) → backup_fault v image ≡ None → (ag : ℕ) → 1 ≤ ag → ag < v.agcount → backup_agrees v image ag ≡ true
unfolding backup_fault
all_agree v image none ag some few =
    not_false (backup_agrees v image ag) (none_passes (backup_differs v image) 1 (v.agcount - 1) none ag some (omega (arith, some, few)))

none_differs : (v : Volume) (image : Image) → ((ag : ℕ) → 1 ≤ ag → ag < v.agcount → backup_agrees v image ag ≡ true) → backup_fault v image ≡ None
unfolding backup_fault
none_differs v image agree =
    none_found (backup_differs v image) 1 (v.agcount - 1) (λ ag some few. ap not (agree ag some (omega (arith, some, few))))

no_backup : (o : Option ℕ) → backup_found o ≡ None → o ≡ None
no_backup None e = refl
no_backup (Some ag) e = absurd (no_some (Found.Part 10 ag) e)

no_law : (o : Option Law) (later : Option Finding) → law_found o later ≡ None → (o ≡ None) × (later ≡ None)
no_law None later e = (refl, e)
no_law (Some law) later e = absurd (no_some (Found.Law law) e)

from_view : (broken : Catalog → Option Law) (g : Geometry) (image : Image)
    → (is : IsElected (volume_of g) image) × (is.vote.place ≡ 0) → (r : Result Catalog Finding) → view g image ≡ r
    → view_found broken r (backup_found (backup_fault (volume_of g) image)) ≡ None → IsConsistent broken g image
from_view broken g image first (Err found) e none = absurd (no_some found none)
from_view broken g image first (Ok c) e none =
    let both = no_law (broken c) (backup_found (backup_fault (volume_of g) image)) none in
    record {
      elected = first.0;
      first = first.1;
      catalog = c;
      reads = e;
      lawful = both.0;
      backups = all_agree (volume_of g) image (no_backup (backup_fault (volume_of g) image) both.1);
    }

pub consistent : (broken : Catalog → Option Law) (g : Geometry) (image : Image) → finding broken g image ≡ None → IsConsistent broken g image
unfolding finding is_from_primary
consistent broken g image none = by_case (is_from_primary (volume_of g) image) refl none
  where
    by_case : (b : Bool) → is_from_primary (volume_of g) image ≡ b
        → (if b then view_found broken (view g image) (backup_found (backup_fault (volume_of g) image)) else Some (Found.Part 0 0)) ≡ None
        → IsConsistent broken g image
    by_case true e h = from_view broken g image (elected_of (volume_of g) image (elected image) refl e) (view g image) refl h
    by_case false e h = absurd (no_some (Found.Part 0 0) h)

pub nothing_found : (broken : Catalog → Option Law) (g : Geometry) (image : Image) → IsConsistent broken g image → finding broken g image ≡ None
unfolding finding
nothing_found broken g image is =
    rw (primary_elected (volume_of g) image is.elected is.first, is.reads, is.lawful, none_differs (volume_of g) image is.backups) refl

abbrev ok_vote : Vote → Result Vote ElectFault
ok_vote vote = Ok vote

one_vote : (x y : Vote) → ok_vote x ≡ ok_vote y → x ≡ y
one_vote x y e = cc

-- a geometry that comes from a backup is the first finding
pub from_backup : (broken : Catalog → Option Law) (g : Geometry) (image : Image) (is : IsElected (volume_of g) image) → is.vote.place ≢ 0
    → finding broken g image ≡ Some (Found.Part 0 0)
unfolding finding
from_backup broken g image is other = rw (backup_elected (volume_of g) image is other) refl

-- the geometry that is elected is one
pub one_geometry : (g h : Geometry) (image : Image) → IsElected (volume_of g) image → IsElected (volume_of h) image → g ≡ h
one_geometry g h image first second =
    let is_g : choice first.vote ≡ volume_of g = same_equal (choice first.vote) (volume_of g) first.states in
    let is_h : choice second.vote ≡ volume_of h = same_equal (choice second.vote) (volume_of h) second.states in
    let same : first.vote ≡ second.vote = one_vote first.vote second.vote (sym first.due ∙ second.due) in
    same_geometry g h (sym is_g ∙ ap choice same ∙ is_h)

one_some : (x y : Finding) → Some x ≡ Some y → x ≡ y
one_some x y e = cc

-- so an image has one finding at most, and none where it is consistent
pub one_finding : (broken : Catalog → Option Law) (image : Image) (x y : Finding) → HasFinding broken image x → HasFinding broken image y → x ≡ y
one_finding broken image x y first second =
    let same : first.geometry ≡ second.geometry = one_geometry first.geometry second.geometry image first.elected second.elected in
    one_some x y (sym first.is ∙ ap (λ (g : Geometry). finding broken g image) same ∙ second.is)

pub never_both : (broken : Catalog → Option Law) (image : Image) (x : Finding) → IsConsistentImage broken image → HasFinding broken image x → ⊥
never_both broken image x is has =
    let same : has.geometry ≡ is.0 = one_geometry has.geometry is.0 image has.elected is.1.elected in
    no_some x (sym has.is ∙ ap (λ (g : Geometry). finding broken g image) same ∙ nothing_found broken is.0 image is.1)

-- an image that elects a geometry is consistent, or something is found in it
pub one_of_both : (broken : Catalog → Option Law) (g : Geometry) (image : Image) → IsElected (volume_of g) image
    → IsConsistentImage broken image ⊎ ((found : Finding) × HasFinding broken image found)
one_of_both broken g image elects = by_case (finding broken g image) refl
  where
    by_case : (o : Option Finding) → finding broken g image ≡ o → IsConsistentImage broken image ⊎ ((found : Finding) × HasFinding broken image found)
    by_case None e = inl (g, consistent broken g image e)
    by_case (Some found) e = inr (found, record { geometry = g; elected = elects; is = e })
