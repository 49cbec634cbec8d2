-- Kinds of files by their numbers.
use Rattle.std.proofs.Common.{◌≡◌, ℕ, ◌+◌, ◌<◌, ◌≤◌, ◌==◌, ◌&&◌, ◌||◌, inl, inr, Bool, true, false, cond, List, [], ◌∷◌, map, length, zero, suc, refl, sym, ◌∙◌, ap, arith, slice_index_or}
use Rattle.std.proofs.lemmas.Bool.{cases_eq}
use Rattle.std.specs.List.Sorted.{IsNonDecreasingBy}
use Rattle.std.proofs.lemmas.Bool.Decides.{nat_tests}
use Rattle.std.proofs.lemmas.List.Sorted.{IsNonDecreasingBy-from_default}
use Rattle.xfs_links.specs.declared.records.NodeRec.{NodeRec}
use Rattle.std.specs.List.{filter}
use Rattle.xfs_naming.specs.Naming.{NumbersAscend}
use Rattle.xfs_links.specs.Connected.{directory_numbers}
use Rattle.xfs_links.specs.Entries.{NodesAscend, no_node, node_number, is_kept_node, is_directory_number}
use Rattle.xfs_links.proofs.Files.{number_low, number_rises}
use Rattle.xfs_links.proofs.Tests.{same_test, other_test}
use Rattle.xfs_names.specs.Wanted.{kind_at}

-- the kind of the file at a place
abbrev pub kind_of_place : List NodeRec → ℕ → ℕ
kind_of_place nodes p = (slice_index_or nodes p no_node).kind

pub kind_found : (low : ℕ) (nodes : List NodeRec) (p n : ℕ) → NodesAscend low nodes → p < length nodes → node_number nodes p ≡ n → kind_of_place nodes p ≡ kind_at nodes n
kind_found low [] p n up h e = absurd (omega arith)
kind_found low (f ∷ fs) zero n up h e = sym (ap (λ t. cond t f.kind (kind_at fs n)) (same_test f.ino n e))
kind_found low (f ∷ fs) (suc p) n up h e =
    let above : f.ino + 1 ≤ node_number fs p = number_low (f.ino + 1) fs p up.1 (omega arith) in
    let apart : (f.ino == n) ≡ false = grind (arith, nat_tests) in
    kind_found (f.ino + 1) fs p n up.1 (omega arith) e ∙ sym (ap (λ t. cond t f.kind (kind_at fs n)) apart)

pub kind_missing : (nodes : List NodeRec) (n : ℕ) → is_kept_node nodes n ≡ false → 0 ≡ kind_at nodes n
kind_missing [] n h = refl
kind_missing (f ∷ fs) n h = either (f.ino == n) h (kind_missing fs n)
  where
    either : (t : Bool) → (t || is_kept_node fs n) ≡ false → (is_kept_node fs n ≡ false → 0 ≡ kind_at fs n) → 0 ≡ cond t f.kind (kind_at fs n)
    either true k r = cc
    either false k r = r k

none_below : (low : ℕ) (nodes : List NodeRec) (n : ℕ) → NodesAscend low nodes → n < low → is_directory_number nodes n ≡ false
none_below low [] n up h = refl
none_below low (f ∷ fs) n up h =
    let rest : is_directory_number fs n ≡ false = none_below (f.ino + 1) fs n up.1 (omega (arith, up.0)) in
    let off : (f.ino == n) ≡ false = grind (arith, nat_tests, up.0) in
    both (f.ino == n) (f.kind == 4) (is_directory_number fs n) off rest
  where
    both : (p q r : Bool) → p ≡ false → r ≡ false → ((p && q) || r) ≡ false
    both p q r e k = grind (arith, nat_tests)

-- a directory is one by its kind
pub kind_tells : (low : ℕ) (nodes : List NodeRec) (n : ℕ) → NodesAscend low nodes → (kind_at nodes n == 4) ≡ is_directory_number nodes n
kind_tells low [] n up = refl
kind_tells low (f ∷ fs) n up = elim (cases_eq f.ino n) [
  | inl same ↦
      (ap (λ t. cond t f.kind (kind_at fs n) == 4) (same_test f.ino n same)
      ∙ here (f.kind == 4) (is_directory_number fs n) (none_below (f.ino + 1) fs n up.1 (omega arith))
      ∙ sym (ap (λ t. (t && f.kind == 4) || is_directory_number fs n) (same_test f.ino n same)))
  | inr other ↦
      (ap (λ t. cond t f.kind (kind_at fs n) == 4) (other_test f.ino n other)
      ∙ kind_tells (f.ino + 1) fs n up.1
      ∙ sym (ap (λ t. (t && f.kind == 4) || is_directory_number fs n) (other_test f.ino n other)))
]
  where
    here : (p q : Bool) → q ≡ false → p ≡ ((true && p) || q)
    here p q h = grind (arith, nat_tests)

-- files stand by number
pub nodes_rise : (nodes : List NodeRec) → NodesAscend 0 nodes → IsNonDecreasingBy (λ (f : NodeRec). f.ino) nodes
nodes_rise nodes up = IsNonDecreasingBy-from_default (λ (f : NodeRec). f.ino) nodes no_node (λ i j le inside.
    grind (arith, λ (l : i < j). number_rises 0 nodes i j up l inside, λ (same : i ≡ j). ap (node_number nodes) same))

-- the numbers of the directories ascend
lower : (low v : ℕ) (xs : List ℕ) → low ≤ v → NumbersAscend v xs → NumbersAscend low xs
lower low v [] le up = tt
lower low v (x ∷ xs) le up = (omega (arith, up.0), up.1)

pub directories_ascend : (low : ℕ) (nodes : List NodeRec) → NodesAscend low nodes → NumbersAscend low (directory_numbers nodes)
directories_ascend low [] up = tt
directories_ascend low (f ∷ fs) up = either (f.kind == 4) (directories_ascend (f.ino + 1) fs up.1)
  where
    either : (t : Bool) → NumbersAscend (f.ino + 1) (directory_numbers fs) → NumbersAscend low (map (λ (g : NodeRec). g.ino) (cond t (f ∷ filter (λ (g : NodeRec). g.kind == 4) fs) (filter (λ (g : NodeRec). g.kind == 4) fs)))
    either true r = (up.0, r)
    either false r = lower low (f.ino + 1) (directory_numbers fs) (omega (arith, up.0)) r
