-- Where a backup is found first, nothing else is wrong.
use Rattle.std.proofs.Common.{◌≡◌, ℕ, ◌+◌, ◌-◌, Bool, true, false, not, if◌then◌else◌, Option, Some, None, Result, Ok, Err, refl, sym, ap, subst, arith}
use Rattle.xfs_disk.specs.Blocks.{Image}
use Rattle.xfs_geom.specs.Election.{elected}
use Rattle.xfs_geom.specs.Volumes.{Volume, volume_of}
use Rattle.xfs_geom.specs.declared.geometry.Geometry.{Geometry}
use Rattle.xfs_volume.specs.declared.catalogs.Catalog.{Catalog}
use Rattle.xfs_volume.specs.declared.findings.Law.{Law}
use Rattle.xfs_image.specs.Consistent.{HasBackupFault, IsElected, IsPartOf, backup_agrees, backup_differs, backup_fault, backup_found, finding, is_from_primary, law_found, view_found}
use Rattle.xfs_image.specs.View.{view}
use Rattle.xfs_image.specs.declared.findings.Finding.{Finding}
use Rattle.xfs_image.specs.declared.findings.Finding.TheVariants as Found
use Rattle.xfs_image.proofs.Consistent.{elected_of, not_false}
use Rattle.xfs_image.proofs.PartsFound.{part_of}
use Rattle.xfs_image.proofs.Ranges.{IsFirst, found_first}

not_true : (b : Bool) → not b ≡ true → b ≡ false
not_true true e = sym e
not_true false e = refl

one_part : (found : Finding) (part place : ℕ) → Some found ≡ Some (Found.Part part place) → found ≡ Found.Part part place
one_part found part place e = cc

no_law_part : (law : Law) (part place : ℕ) → Some (Found.Law law) ≡ Some (Found.Part part place) → ⊥
no_law_part law part place e = cc

part_number : (p q a b : ℕ) → Some (Found.Part p a) ≡ Some (Found.Part q b) → p ≡ q
part_number p q a b e = cc

part_place : (p q a b : ℕ) → Some (Found.Part p a) ≡ Some (Found.Part q b) → a ≡ b
part_place p q a b e = cc

no_finding : (found : Finding) → None ≡ Some found → ⊥
no_finding found e = cc

backup_is : (o : Option ℕ) (ag : ℕ) → backup_found o ≡ Some (Found.Part 10 ag) → o ≡ Some ag
backup_is None ag e = absurd (no_finding (Found.Part 10 ag) e)
backup_is (Some other) ag e = ap (λ n. Some n) (part_place 10 10 other ag e)

law_is : (o : Option Law) (later : Option Finding) (ag : ℕ) → law_found o later ≡ Some (Found.Part 10 ag) → (o ≡ None) × (later ≡ Some (Found.Part 10 ag))
law_is None later ag e = (refl, e)
law_is (Some law) later ag e = absurd (no_law_part law 10 ag e)

first_differs : (v : Volume) (image : Image) (ag : ℕ) → backup_fault v image ≡ Some ag → IsFirst (backup_differs v image) 1 (1 + (v.agcount - 1)) ag
unfolding backup_fault
first_differs v image ag e = found_first (backup_differs v image) 1 (v.agcount - 1) ag e

from_view : (broken : Catalog → Option Law) (g : Geometry) (image : Image) (ag : ℕ)
    → (is : IsElected (volume_of g) image) × (is.vote.place ≡ 0) → (r : Result Catalog Finding) → view g image ≡ r
    → view_found broken r (backup_found (backup_fault (volume_of g) image)) ≡ Some (Found.Part 10 ag) → HasBackupFault broken g image ag
from_view broken g image ag first (Err found) e is =
    let part : IsPartOf (volume_of g) (Found.Part 10 ag) = subst (IsPartOf (volume_of g)) (one_part found 10 ag is) (part_of g image found e) in
    absurd (omega (arith, part.1))
from_view broken g image ag first (Ok c) e is =
    let both = law_is (broken c) (backup_found (backup_fault (volume_of g) image)) ag is in
    let differs = first_differs (volume_of g) image ag (backup_is (backup_fault (volume_of g) image) ag both.1) in
    record {
      elected = first.0;
      first = first.1;
      catalog = c;
      reads = e;
      lawful = both.0;
      some = differs.low;
      few = let high = differs.high in let low = differs.low in omega (arith, high, low);
      differs = not_true (backup_agrees (volume_of g) image ag) differs.passes;
      least = λ before low high. not_false (backup_agrees (volume_of g) image before) (differs.least before low high);
    }

pub only_backups : (broken : Catalog → Option Law) (g : Geometry) (image : Image) (ag : ℕ) → finding broken g image ≡ Some (Found.Part 10 ag)
    → HasBackupFault broken g image ag
unfolding finding is_from_primary
only_backups broken g image ag found = by_case (is_from_primary (volume_of g) image) refl found
  where
    by_case : (b : Bool) → is_from_primary (volume_of g) image ≡ b
        → (if b then view_found broken (view g image) (backup_found (backup_fault (volume_of g) image)) else Some (Found.Part 0 0)) ≡ Some (Found.Part 10 ag)
        → HasBackupFault broken g image ag
    by_case true e h = from_view broken g image ag (elected_of (volume_of g) image (elected image) refl e) (view g image) refl h
    by_case false e h = absurd (let wrong : 0 ≡ 10 = part_number 0 10 0 ag h in omega (arith, wrong))
