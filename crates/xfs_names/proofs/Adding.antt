-- A directory more among files.
use Rattle.std.proofs.Common.{◌≡◌, ℕ, ◌+◌, ◌≤◌, ◌==◌, ◌||◌, nat_lt, Bool, true, false, cond, List, [], ◌∷◌, length, zero, suc, refl, sym, ◌∙◌, ap, arith, ltb}
use Rattle.std.specs.List.{insert}
use Rattle.std.specs.List.Sorted.{IsPartitionPoint}
use Rattle.std.proofs.lemmas.Bool.Decides.{nat_tests}
use Rattle.xfs_links.specs.declared.records.NodeRec.{NodeRec}
use Rattle.xfs_links.specs.Entries.{NodesAscend, is_kept_node}
use Rattle.xfs_names.specs.Wanted.{directory_node, with_directory}

pub inserted : (n : ℕ) (nodes : List NodeRec) (i : ℕ) → i ≤ length nodes → IsPartitionPoint (λ (f : NodeRec). ltb f.ino n ≡ true) (λ (f : NodeRec). ltb f.ino n ≡ false) nodes i
    → insert nodes i (directory_node n) ≡ with_directory n nodes
inserted n [] zero h at = refl
inserted n [] (suc i) h at = absurd (omega arith)
inserted n (f ∷ fs) zero h at =
    let first : ltb f.ino n ≡ false = at.1 0 f (omega arith) (omega arith) in
    sym (ap (λ t. cond t (f ∷ with_directory n fs) (directory_node n ∷ f ∷ fs)) first)
inserted n (f ∷ fs) (suc i) h at =
    let first : ltb f.ino n ≡ true = at.0 0 f (omega arith) (omega arith) in
    ap (λ ys. f ∷ ys) (inserted n fs i (omega arith) ((λ k d l m. at.0 (suc k) d (omega arith) (omega arith)), (λ k d l m. at.1 (suc k) d (omega arith) (omega arith))))
    ∙ sym (ap (λ t. cond t (f ∷ with_directory n fs) (directory_node n ∷ f ∷ fs)) first)

-- a number that no file has
pub adding_ascends : (low n : ℕ) (nodes : List NodeRec) → NodesAscend low nodes → low ≤ n → is_kept_node nodes n ≡ false → NodesAscend low (with_directory n nodes)
adding_ascends low n [] up le off = (le, tt)
adding_ascends low n (f ∷ fs) up le off = either (nat_lt f.ino n) refl (adding_ascends (f.ino + 1) n fs up.1)
  where
    apart : (a : ℕ) (t : Bool) → ((a == n) || t) ≡ false → a ≡ n → ⊥
    apart a t k same = grind (arith, nat_tests)

    further : (p t : Bool) → (p || t) ≡ false → t ≡ false
    further p t k = grind (arith, nat_tests)

    below : nat_lt f.ino n ≡ true → f.ino + 1 ≤ n
    below k = grind (arith, nat_tests)

    above : nat_lt f.ino n ≡ false → (f.ino ≡ n → ⊥) → n + 1 ≤ f.ino
    above k other = grind (arith, nat_tests)

    either : (t : Bool) → nat_lt f.ino n ≡ t → (f.ino + 1 ≤ n → is_kept_node fs n ≡ false → NodesAscend (f.ino + 1) (with_directory n fs)) → NodesAscend low (cond t (f ∷ with_directory n fs) (directory_node n ∷ f ∷ fs))
    either true e r = (up.0, r (below e) (further (f.ino == n) (is_kept_node fs n) off))
    either false e r = (le, (above e (apart f.ino (is_kept_node fs n) off), up.1))
