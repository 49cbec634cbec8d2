-- What is found of an image, case by case.
use Rattle.std.proofs.Common.{◌≡◌, inl, inr, ℕ, zero, suc, ◌+◌, ◌-◌, ◌≤◌, ◌<◌, Bool, true, false, not, ◌==◌, Option, Some, None, Ok, Err, refl, ap, ◌∙◌, arith}
use Rattle.std.specs.List.{find, range_with_len}
use Rattle.std.proofs.lemmas.Bool.{and_from, cases_lt, eq-eqb, not_from_false}
use Rattle.xfs_disk.specs.Blocks.{Image}
use Rattle.xfs_geom.specs.Election.{choice, same_volume}
use Rattle.xfs_geom.specs.Volumes.{Volume, volume_of}
use Rattle.xfs_geom.specs.declared.geometry.Geometry.{Geometry}
use Rattle.xfs_volume.specs.declared.catalogs.Catalog.{Catalog}
use Rattle.xfs_volume.specs.declared.findings.Law.{Law}
use Rattle.xfs_image.proofs.Consistent.{nothing_found}
use Rattle.xfs_image.specs.Consistent.{IsElected, backup_agrees, backup_differs, backup_fault, finding, is_from_primary, is_primary}
use Rattle.xfs_image.specs.View.{view}
use Rattle.xfs_image.specs.declared.findings.Finding.{Finding}
use Rattle.xfs_image.specs.declared.findings.Finding.TheVariants as Found

-- the first number of a row that passes is found
first_found : (p : ℕ → Bool) (a n k : ℕ) → a ≤ k → k < a + n → p k ≡ true → ((j : ℕ) → a ≤ j → j < k → p j ≡ false) → find p (range_with_len a n) ≡ Some k
first_found p a zero k low high passes least = absurd (omega (arith, low, high))
first_found p a (suc n) k low high passes least =
    elim (cases_lt a k) [
      | inl above ↦
          let other : p a ≡ false = least a (omega arith) above in
          rw other (first_found p (a + 1) n k (omega (arith, above)) (omega (arith, high)) passes (λ j from upto. least j (omega (arith, from)) upto))
      | inr upto ↦
          let same : a ≡ k = omega (arith, low, upto) in
          let first : p a ≡ true = ap p same ∙ passes in
          rw first (ap (λ n. Some n) same)
    ]

from_primary : (v : Volume) (image : Image) (is : IsElected v image) → is.vote.place ≡ 0 → is_from_primary v image ≡ true
unfolding is_from_primary
from_primary v image is first =
    ap (is_primary v) is.due ∙ and_from (is.vote.place == 0) (same_volume (choice is.vote) v) (eq-eqb is.vote.place 0 first) is.states

module _ (broken : Catalog → Option Law) (g : Geometry) (image : Image) (is : IsElected (volume_of g) image) (first : is.vote.place ≡ 0) where
  pub part_found : (found : Finding) → view g image ≡ Err found → finding broken g image ≡ Some found
  unfolding finding
  part_found found reads = rw (from_primary (volume_of g) image is first, reads) refl

  pub law_found : (c : Catalog) (law : Law) → view g image ≡ Ok c → broken c ≡ Some law → finding broken g image ≡ Some (Found.Law law)
  unfolding finding
  law_found c law reads breaks = rw (from_primary (volume_of g) image is first, reads, breaks) refl

  pub backup_found : (c : Catalog) (ag : ℕ) → view g image ≡ Ok c → broken c ≡ None → 1 ≤ ag → ag < g.agcount → backup_agrees (volume_of g) image ag ≡ false
      → ((before : ℕ) → 1 ≤ before → before < ag → backup_agrees (volume_of g) image before ≡ true) → finding broken g image ≡ Some (Found.Part 10 ag)
  unfolding finding backup_fault
  backup_found c ag reads lawful some few differs agree =
      let at : find (backup_differs (volume_of g) image) (range_with_len 1 (g.agcount - 1)) ≡ Some ag =
      first_found (backup_differs (volume_of g) image) 1 (g.agcount - 1) ag some (omega (arith, some, few)) (not_from_false _ differs)
      (λ before low high. ap not (agree before low high)) in
      rw (from_primary (volume_of g) image is first, reads, lawful, at) refl

  pub none_found : (c : Catalog) → view g image ≡ Ok c → broken c ≡ None
      → ((ag : ℕ) → 1 ≤ ag → ag < g.agcount → backup_agrees (volume_of g) image ag ≡ true) → finding broken g image ≡ None
  none_found c reads lawful agree =
      nothing_found broken g image (record { elected = is; first = first; catalog = c; reads = reads; lawful = lawful; backups = agree })
