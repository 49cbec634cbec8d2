-- Ascending numbers stand once each.
use Rattle.std.proofs.Common.{◌≡◌, ℕ, ◌+◌, ◌≤◌, ◌==◌, inl, inr, Bool, true, false, cond, List, [], ◌∷◌, map, refl, arith}
use Rattle.std.specs.List.{filter}
use Rattle.std.proofs.lemmas.Bool.{cases_eq}
use Rattle.xfs_collections.specs.Lists.{has_node, AreOnce}
use Rattle.xfs_volume.specs.declared.files.FileRec.{FileRec}
use Rattle.xfs_naming.specs.Naming.{NumbersAscend}
use Rattle.xfs_links.specs.declared.records.NodeRec.{NodeRec}
use Rattle.xfs_links.specs.Entries.{NodesAscend as NodesAscend}
use Rattle.xfs_links.proofs.Tests.{other_test, the_second}

pub rises : (low x : ℕ) (xs : List ℕ) → NumbersAscend low xs → has_node x xs ≡ true → low ≤ x
rises low x [] h k = cc
rises low x (y ∷ ys) h k = elim (cases_eq y x) [
  | inl same ↦ let first : low ≤ y = h.0 in omega arith
  | inr other ↦ let first : low ≤ y = h.0 in
      let rest : y + 1 ≤ x = rises (y + 1) x ys h.1 (the_second (y == x) (has_node x ys) (other_test y x other) k) in omega arith
]

-- a number is none of those that ascend from the next one on
pub absent : (x : ℕ) (xs : List ℕ) → NumbersAscend (x + 1) xs → has_node x xs ≡ false
absent x xs h = either (has_node x xs) refl
  where
    either : (t : Bool) → has_node x xs ≡ t → t ≡ false
    either true e = let up : x + 1 ≤ x = rises (x + 1) x xs h e in absurd (omega arith)
    either false e = refl

pub ascend_once : (low : ℕ) (xs : List ℕ) → NumbersAscend low xs → AreOnce xs
ascend_once low [] h = tt
ascend_once low (x ∷ xs) h = (absent x xs h.1, ascend_once (x + 1) xs h.1)

-- the numbers of files
pub nodes_ascend : (low : ℕ) (nodes : List NodeRec) → NodesAscend low nodes → NumbersAscend low (map (λ (f : NodeRec). f.ino) nodes)
nodes_ascend low [] h = tt
nodes_ascend low (f ∷ fs) h = (h.0, nodes_ascend (f.ino + 1) fs h.1)

lower : (low least : ℕ) (xs : List ℕ) → low ≤ least → NumbersAscend least xs → NumbersAscend low xs
lower low least [] l h = tt
lower low least (x ∷ xs) l h = let first : least ≤ x = h.0 in (omega arith, h.1)

pub picked : (p : FileRec → Bool) (low : ℕ) (fs : List FileRec) → NumbersAscend low (map (λ (f : FileRec). f.ino) fs) → NumbersAscend low (map (λ (f : FileRec). f.ino) (filter p fs))
picked p low [] h = tt
picked p low (f ∷ fs) h = either (p f) (picked p (f.ino + 1) fs h.1)
  where
    either : (t : Bool) → NumbersAscend (f.ino + 1) (map (λ (f : FileRec). f.ino) (filter p fs)) → NumbersAscend low (map (λ (f : FileRec). f.ino) (cond t (f ∷ filter p fs) (filter p fs)))
    either true r = (h.0, r)
    either false r = let first : low ≤ f.ino = h.0 in lower low (f.ino + 1) (map (λ (f : FileRec). f.ino) (filter p fs)) (omega arith) r
