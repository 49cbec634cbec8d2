-- The blocks that trees and free lists are placed on can hold them.
use Rattle.std.proofs.Common.{◌≡◌, ◌≢◌, ℕ, zero, suc, ◌+◌, ◌*◌, ◌/◌, ◌<◌, ◌≤◌, Bool, true, false, not, ◌&&◌, ◌||◌, ◌==◌, nat_le, nat_lt, List, [], ◌∷◌, ◌++◌, length, get_or, map, take, drop, refl, sym, ap, ◌∙◌, subst, arith, append_assoc, length-append}
use Rattle.std.specs.Prelude.{IsTrue}
use Rattle.std.specs.List.{All, AllPairs, flat_map, list_all, list_any, sum}
use Rattle.std.proofs.lemmas.Bool.{and_from, and_parts, eq-eqb, false_from_ne_true, lt-ltb, ne_eqb, not_from_false, not-true, or_from, or_right, true≢false}
use Rattle.std.proofs.lemmas.List.{get_or-append-add, get_or-map, get_or_append_left, length-map}
use Rattle.std.proofs.lemmas.List.Elements.{All-drop, All-from_get_or, All-map, All-nil, All-take}
use Rattle.std.proofs.lemmas.List.Sums.{list_all-from_AllPass}
use Rattle.std.proofs.lemmas.Nat.{div-mul-add}
use Rattle.xfs_geom.specs.Conversions.{group_length, is_fixed}
use Rattle.xfs_geom.specs.Volumes.{Volume}
use Rattle.xfs_geom.specs.declared.records.Run.{Run}
use Rattle.xfs_heads.specs.Heads.{is_listable}
use Rattle.xfs_treebuild.specs.Packing.{are_different}
use Rattle.xfs_tree.specs.Rules.{can_hold, is_of_root_cluster}
use Rattle.xfs_tree.specs.declared.layout.Layout.{Layout}
use Rattle.xfs_volume.specs.declared.groups.TreeBlocks.{TreeBlocks}
use Rattle.xfs_place.specs.Placing.{cut, tree_blocks_at}
use Rattle.xfs_place.specs.Pool.{is_listed, is_pool, is_taken}
use Rattle.xfs_render.specs.Groups.{no_tree}

abbrev blocks_in : TreeBlocks → List ℕ
blocks_in t = t.blocks

module _ {A : Type 0} where
  pub all_left : (P : A → Type 0) (xs ys : List A) → All P (xs ++ ys) → All P xs
  all_left P xs ys all = λ k d low. subst P (get_or_append_left xs ys d k low) (all k d (omega (arith, low, length-append xs ys)))

  pub all_right : (P : A → Type 0) (xs ys : List A) → All P (xs ++ ys) → All P ys
  all_right P xs ys all = λ k d low. subst P (get_or-append-add xs ys k d) (all (length xs + k) d (omega (arith, low, length-append xs ys)))

  pairs_left : (R : A → A → Type 0) (xs ys : List A) → AllPairs R (xs ++ ys) → AllPairs R xs
  pairs_left R xs ys all = λ i j d before low.
      subst (λ (x : A). R x (get_or xs j d)) (get_or_append_left xs ys d i (omega (arith, before, low)))
      (subst (R (get_or (xs ++ ys) i d)) (get_or_append_left xs ys d j low) (all i j d before (omega (arith, low, length-append xs ys))))

  pairs_right : (R : A → A → Type 0) (xs ys : List A) → AllPairs R (xs ++ ys) → AllPairs R ys
  pairs_right R xs ys all = λ i j d before low.
      subst (λ (x : A). R x (get_or ys j d)) (get_or-append-add xs ys i d)
      (subst (R (get_or (xs ++ ys) (length xs + i) d)) (get_or-append-add xs ys j d) (all (length xs + i) (length xs + j) d (omega (arith, before)) (omega (arith, low, length-append xs ys))))

-- the blocks of one of some trees, before others
pub all_of_tree : (P : ℕ → Type 0) (ts : List TreeBlocks) (rest : List ℕ) (i : ℕ) → All P (flat_map blocks_in ts ++ rest) → All P (get_or ts i no_tree).blocks
all_of_tree P [] rest i all = All-nil P
all_of_tree P (t ∷ ts) rest zero all = all_left P t.blocks (flat_map blocks_in ts) (all_left P (t.blocks ++ flat_map blocks_in ts) rest all)
all_of_tree P (t ∷ ts) rest (suc i) all =
    all_of_tree P ts rest i (all_right P t.blocks (flat_map blocks_in ts ++ rest) (subst (All P) (append_assoc t.blocks (flat_map blocks_in ts) rest) all))

pub all_of_list : (P : ℕ → Type 0) (ts : List TreeBlocks) (rest : List ℕ) → All P (flat_map blocks_in ts ++ rest) → All P rest
all_of_list P ts rest all = all_right P (flat_map blocks_in ts) rest all

pairs_of_tree : (R : ℕ → ℕ → Type 0) (ts : List TreeBlocks) (rest : List ℕ) (i : ℕ) → AllPairs R (flat_map blocks_in ts ++ rest) → AllPairs R (get_or ts i no_tree).blocks
pairs_of_tree R [] rest i all = λ a b d before low. absurd (omega (arith, low))
pairs_of_tree R (t ∷ ts) rest zero all = pairs_left R t.blocks (flat_map blocks_in ts) (pairs_left R (t.blocks ++ flat_map blocks_in ts) rest all)
pairs_of_tree R (t ∷ ts) rest (suc i) all =
    pairs_of_tree R ts rest i (pairs_right R t.blocks (flat_map blocks_in ts ++ rest) (subst (AllPairs R) (append_assoc t.blocks (flat_map blocks_in ts) rest) all))

-- the blocks of a tree that is cut out of some
pub all_of_cut : (P : ℕ → Type 0) (base : ℕ) (sizes blocks : List ℕ) (i : ℕ) → All (λ b. P (base + b)) blocks
    → All P (get_or (map (tree_blocks_at base) (cut sizes blocks)) i no_tree).blocks
all_of_cut P base [] blocks i all = All-nil P
all_of_cut P base (s ∷ ss) blocks zero all = All-map P (λ b. base + b) (take s blocks) (All-take (λ b. P (base + b)) s blocks all)
all_of_cut P base (s ∷ ss) blocks (suc i) all = all_of_cut P base ss (drop s blocks) i (All-drop (λ b. P (base + b)) s blocks all)

-- numbers that ascend differ
none_is : (x : ℕ) (ys : List ℕ) → All (λ y. x < y) ys → list_any (λ other. other == x) ys ≡ false
none_is x [] above = refl
none_is x (y ∷ ys) above =
    let up = above 0 0 (omega arith) in
    or_from (y == x) _ (ne_eqb y x (λ e. absurd (omega (arith, e, up)))) (none_is x ys (λ k d low. above (suc k) d (omega (arith, low))))

different : (xs : List ℕ) → AllPairs (λ x y. x < y) xs → are_different xs ≡ true
different [] up = refl
different (x ∷ xs) up =
    and_from _ _ (not_from_false _ (none_is x xs (λ k d low. up 0 (suc k) d (omega arith) (omega (arith, low)))))
    (different xs (λ i j d before low. up (suc i) (suc j) d (omega (arith, before)) (omega (arith, low))))

pub tree_different : (ts : List TreeBlocks) (rest : List ℕ) (i : ℕ) → AllPairs (λ x y. x < y) (flat_map blocks_in ts ++ rest) → IsTrue (are_different (get_or ts i no_tree).blocks)
tree_different ts rest i up = different (get_or ts i no_tree).blocks (pairs_of_tree (λ x y. x < y) ts rest i up)

-- a block of the pool, by its AG block
pub record IsOpen (v : Volume) (kept : List Run) (ag block : ℕ) : Type 0 where
  pub at : ℕ
  pub low : at < group_length v ag
  pub is : block ≡ ag * v.agblocks + at
  pub clear : is_fixed v block ≡ false
  pub free : is_taken kept block ≡ false

pub pool_parts : (v : Volume) (kept : List Run) (reserved : List ℕ) (block : ℕ) → is_pool v kept reserved block ≡ true
    → (is_fixed v block ≡ false) × (is_taken kept block ≡ false)
unfolding is_pool
pool_parts v kept reserved block pool =
    let both = and_parts (not (is_fixed v block) && not (is_taken kept block)) (not (is_listed reserved block)) pool in
    let parts = and_parts (not (is_fixed v block)) (not (is_taken kept block)) both.0 in
    (not-true (is_fixed v block) parts.0, not-true (is_taken kept block) parts.1)

-- such a block can hold one of the trees, where the root's cluster is taken
pub open_holds : (v : Volume) (l : Layout) (kept : List Run) (ag block : ℕ) → group_length v ag ≤ v.agblocks → ag * v.agblocks + group_length v ag ≤ v.dblocks
    → ((b : ℕ) → is_of_root_cluster v b ≡ true → is_taken kept b ≡ true) → IsOpen v kept ag block → IsTrue (can_hold v l ag block)
open_holds v l kept ag block short inside root is =
    let here = lt-ltb block v.dblocks (omega (arith, is.low, is.is, inside)) in
    let quotient : block / v.agblocks ≡ ag = ap (λ (b : ℕ). b / v.agblocks) is.is ∙ div-mul-add ag v.agblocks is.at (omega (arith, is.low, short)) in
    let group = or_right l.long (block / v.agblocks == ag) (eq-eqb (block / v.agblocks) ag quotient) in
    let other = false_from_ne_true (is_of_root_cluster v block) (λ h. true≢false (sym (root block h) ∙ is.free)) in
    and_from _ _ (and_from _ _ (and_from _ _ here group) (not_from_false (is_fixed v block) is.clear)) (not_from_false (is_of_root_cluster v block) other)

-- the entries of a free list
pub list_listable : (v : Volume) (ag : ℕ) (agfl : List ℕ) → All (λ b. b < group_length v ag) agfl → All (λ block. is_fixed v block ≡ false) (map (λ b. ag * v.agblocks + b) agfl)
    → IsTrue (list_all (is_listable v ag) agfl)
list_listable v ag agfl low clear =
    list_all-from_AllPass (is_listable v ag) agfl (λ k d inside.
    let f : ℕ → ℕ = λ b. ag * v.agblocks + b in
    let here : is_fixed v (f (get_or agfl k d)) ≡ false =
    subst (λ (x : ℕ). is_fixed v x ≡ false) (get_or-map f agfl k d d inside) (clear k d (omega (arith, inside, length-map agfl f))) in
    and_from _ _ (lt-ltb (get_or agfl k d) (group_length v ag) (low k d inside)) (not_from_false (is_fixed v (f (get_or agfl k d))) here))
