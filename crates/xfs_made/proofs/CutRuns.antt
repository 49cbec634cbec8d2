-- Blocks that are cut into trees and a free list have the owners that their ranks give them.
use Rattle.std.proofs.Common.{◌≡◌, ℕ, suc, ◌+◌, ◌≤◌, ◌<◌, ◌&&◌, Bool, nat_le, nat_lt, List, [], ◌∷◌, ◌++◌, length, get_or, map, take, drop, refl, sym, ◌∙◌, ap, ap₂, arith, append_assoc, length-drop, length-take, take-append-drop}
use Rattle.std.specs.List.{range_with_len, sum}
use Rattle.std.proofs.lemmas.Bool.{and_from, and_right, le-leb, le-ltb, lt-leb, lt-ltb}
use Rattle.std.proofs.lemmas.List.{drop-drop, map-append}
use Rattle.std.proofs.lemmas.List.Sums.{sum_by-cons}
use Rattle.xfs_kinds.specs.Owners.{group_owner, inode_trees_owner}
use Rattle.xfs_geom.specs.declared.records.Run.{Run}
use Rattle.xfs_place.specs.Choice.{owner_of}
use Rattle.xfs_place.specs.Placing.{cut, tree_blocks_at}
use Rattle.xfs_space.specs.Owners.{runs_of_blocks, new_run, tree_owners, tree_runs}
use Rattle.xfs_made.proofs.MovedRuns.{moved}

-- single blocks from a rank on, with the owners of their ranks
abbrev pub ranked : (ℕ → ℕ) → ℕ → List ℕ → List Run
ranked own k [] = []
ranked own k (b ∷ bs) = new_run b 1 (own k) 0 ∷ ranked own (k + 1) bs

pub ranked_is : (own place : ℕ → ℕ) (k : ℕ) (bs : List ℕ) → ((j : ℕ) → j < length bs → place (k + j) ≡ get_or bs j 0)
    → map (λ j. new_run (place j) 1 (own j) 0) (range_with_len k (length bs)) ≡ ranked own k bs
ranked_is own place k [] same = refl
ranked_is own place k (b ∷ bs) same =
    let start : k ≡ k + 0 = omega arith in
    let first : place k ≡ b = ap place start ∙ same 0 (omega arith) in
    let others = ranked_is own place (k + 1) bs (λ j low. let next : k + 1 + j ≡ k + suc j = omega arith in ap place next ∙ same (suc j) (omega (arith, low))) in
    ap₂ (λ (x : ℕ) (rs : List Run). new_run x 1 (own k) 0 ∷ rs) first others

ranked_both : (own : ℕ → ℕ) (k : ℕ) (xs ys : List ℕ) → ranked own k (xs ++ ys) ≡ ranked own k xs ++ ranked own (k + length xs) ys
ranked_both own k [] ys = let same : k ≡ k + 0 = omega arith in ap (λ (j : ℕ). ranked own j ys) same
ranked_both own k (x ∷ xs) ys =
    let next : k + 1 + length xs ≡ k + suc (length xs) = omega arith in
    ap (λ (rs : List Run). new_run x 1 (own k) 0 ∷ rs) (ranked_both own (k + 1) xs ys ∙ ap (λ (j : ℕ). ranked own (k + 1) xs ++ ranked own j ys) next)

-- blocks of one owner
ranked_of : (own : ℕ → ℕ) (owner base k : ℕ) (xs : List ℕ) → ((j : ℕ) → k ≤ j → j < k + length xs → own j ≡ owner)
    → map (moved base) (ranked own k xs) ≡ runs_of_blocks owner 0 (map (λ b. base + b) xs)
ranked_of own owner base k [] owns = refl
ranked_of own owner base k (x ∷ xs) owns =
    let others = ranked_of own owner base (k + 1) xs (λ j low high. owns j (omega (arith, low)) (omega (arith, high))) in
    ap₂ (λ (o : ℕ) (rs : List Run). new_run (base + x) 1 o 0 ∷ rs) (owns k (omega arith) (omega arith)) others

-- each tree has its owner, and the free list behind the trees another
abbrev pub AreOwners : (ℕ → ℕ) → ℕ → ℕ → List ℕ → List ℕ → Type 0
AreOwners own rest k [] [] = (j : ℕ) → k ≤ j → own j ≡ rest
AreOwners own rest k [] (s ∷ ss) = ⊥
AreOwners own rest k (o ∷ os) [] = ⊥
AreOwners own rest k (o ∷ os) (s ∷ ss) = ((j : ℕ) → k ≤ j → j < k + s → own j ≡ o) × AreOwners own rest (k + s) os ss

pub cut_runs : (own : ℕ → ℕ) (rest base k : ℕ) (os ss bs : List ℕ) → AreOwners own rest k os ss → sum ss ≤ length bs
    → tree_runs os (map (tree_blocks_at base) (cut ss bs)) ++ runs_of_blocks rest 0 (map (λ b. base + b) (drop (sum ss) bs)) ≡ map (moved base) (ranked own k bs)
cut_runs own rest base k [] [] bs owns fit = sym (ranked_of own rest base k bs (λ j low high. owns j low))
cut_runs own rest base k [] (s ∷ ss) bs owns fit = absurd owns
cut_runs own rest base k (o ∷ os) [] bs owns fit = absurd owns
cut_runs own rest base k (o ∷ os) (s ∷ ss) bs owns fit =
    let f : ℕ → ℕ = λ b. base + b in
    let whole : sum (s ∷ ss) ≡ s + sum ss = sum_by-cons (λ (x : ℕ). x) s ss in
    let long : length (take s bs) ≡ s = omega (arith, length-take s bs, whole, fit) in
    let behind : drop (sum (s ∷ ss)) bs ≡ drop (sum ss) (drop s bs) = ap (λ (n : ℕ). drop n bs) whole ∙ sym (drop-drop (sum ss) s bs) in
    let others = cut_runs own rest base (k + s) os ss (drop s bs) owns.1 (omega (arith, length-drop s bs, whole, fit)) in
    let first : runs_of_blocks o 0 (map f (take s bs)) ≡ map (moved base) (ranked own k (take s bs)) =
    sym (ranked_of own o base k (take s bs) (λ j low high. owns.0 j low (omega (arith, high, long)))) in
    let next : k + s ≡ k + length (take s bs) = omega (arith, long) in
    ap (λ (xs : List ℕ). (runs_of_blocks o 0 (map f (take s bs)) ++ tree_runs os (map (tree_blocks_at base) (cut ss (drop s bs)))) ++ runs_of_blocks rest 0 (map f xs)) behind
    ∙ append_assoc (runs_of_blocks o 0 (map f (take s bs))) (tree_runs os (map (tree_blocks_at base) (cut ss (drop s bs)))) (runs_of_blocks rest 0 (map f (drop (sum ss) (drop s bs))))
    ∙ ap₂ (λ (xs ys : List Run). xs ++ ys) first (others ∙ ap (λ (j : ℕ). map (moved base) (ranked own j (drop s bs))) next)
    ∙ sym (map-append (moved base) (ranked own k (take s bs)) (ranked own (k + length (take s bs)) (drop s bs)))
    ∙ ap (map (moved base)) (sym (ranked_both own k (take s bs) (drop s bs)) ∙ ap (ranked own k) (take-append-drop s bs))

-- the owners of the five trees, of which the third and the fourth are those of inodes
module _ (space inner : ℕ) where
  abbrev owner_at : ℕ → ℕ
  owner_at j = owner_of (nat_le space j && nat_lt j (space + inner))

  owned_before : (j : ℕ) → j < space → owner_at j ≡ group_owner
  owned_before j low = ap (λ (t : Bool). owner_of (t && nat_lt j (space + inner))) (lt-leb space j low)

  owned_inside : (j : ℕ) → space ≤ j → j < space + inner → owner_at j ≡ inode_trees_owner
  owned_inside j low high = ap owner_of (and_from (nat_le space j) (nat_lt j (space + inner)) (le-leb space j low) (lt-ltb j (space + inner) high))

  owned_behind : (j : ℕ) → space + inner ≤ j → owner_at j ≡ group_owner
  owned_behind j high = ap owner_of (and_right (nat_le space j) (nat_lt j (space + inner)) (le-ltb j (space + inner) high))

  pub five_owned : (a b c d e : ℕ) → space ≡ a + b → inner ≡ c + d → AreOwners owner_at group_owner 0 tree_owners (a ∷ b ∷ c ∷ d ∷ e ∷ [])
  five_owned a b c d e front middle = (
    λ j low high. owned_before j (omega (arith, high, front)),
    (
      λ j low high. owned_before j (omega (arith, high, front)),
      (
        λ j low high. owned_inside j (omega (arith, low, front)) (omega (arith, high, front, middle)),
        (
          λ j low high. owned_inside j (omega (arith, low, front)) (omega (arith, high, front, middle)),
          (λ j low high. owned_behind j (omega (arith, low, front, middle)), λ j low. owned_behind j (omega (arith, low, front, middle))),
        ),
      ),
    ),
  )
