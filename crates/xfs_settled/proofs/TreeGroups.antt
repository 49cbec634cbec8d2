-- Two images that have the trees of all groups as they are placed have the same blocks there.
use Rattle.std.proofs.Common.{◌≡◌, ℕ, zero, suc, ◌<◌, ◌⊎◌, inl, inr, List, [], ◌∷◌, length, map, get_or, sym, ◌∙◌, ap, subst, arith}
use Rattle.std.specs.List.{All, flat_map, sum}
use Rattle.std.proofs.lemmas.Bool.{cases_lt}
use Rattle.std.proofs.lemmas.List.{get_or-map, get_or_default, get_or_past, length-map}
use Rattle.std.proofs.lemmas.List.Elements.{All-append, All-nil}
use Rattle.std.proofs.lemmas.List.Sorted.{length_permutation}
use Rattle.std.proofs.lemmas.Option.{slice_get-get_or}
use Rattle.xfs_disk.specs.Blocks.{Image, IsImage, bytes_of_block}
use Rattle.xfs_empty.specs.Planning.{StandsFor}
use Rattle.xfs_geom.specs.Volumes.{Volume}
use Rattle.xfs_geom.specs.declared.records.InoRec.{InoRec}
use Rattle.xfs_kinds.specs.FreeTrees.{bno_shape, cnt_shape}
use Rattle.xfs_kinds.specs.InodeTrees.{fino_shape, ino_shape}
use Rattle.xfs_kinds.specs.OwnerTrees.{rmap_shape}
use Rattle.xfs_place.specs.Placing.{tree_sizes}
use Rattle.xfs_place.specs.declared.placed.GroupPlaced.{GroupPlaced}
use Rattle.xfs_place.specs.declared.placed.Placed.{Placed}
use Rattle.xfs_place.specs.declared.wanted.Wanted.{Wanted}
use Rattle.xfs_render.specs.Groups.{no_tree, tree_places}
use Rattle.xfs_render.specs.Rendering.{group_placed, no_group, tree_blocks, volume, wanted_inodes}
use Rattle.xfs_render.specs.Trees.{HasTree, HasTrees, group_tree_places}
use Rattle.xfs_tree.specs.Shape.{Shape}
use Rattle.xfs_treebuild.specs.Size.{rows_of}
use Rattle.xfs_volume.specs.declared.groups.TreeBlocks.{TreeBlocks}
use Rattle.xfs_settled.specs.Sectors.{AreSized}
use Rattle.xfs_settled.proofs.TreeBlocks.{IsShort}
use Rattle.xfs_settled.proofs.TreeKinds.{bno_short, cnt_short, fino_short, ino_short, rmap_short}
use Rattle.xfs_settled.proofs.TreeRows.{tree_one}

-- a block of an image has its bytes
pub image_sized : (blocks : ℕ) (image : Image) → IsImage blocks image → (place : ℕ) → place < blocks → AreSized 4096 (bytes_of_block image place)
image_sized blocks image is place low =
    let inside : place < length image = omega (arith, low, is.count) in
    let block = is.each place (bytes_of_block image place) (slice_get-get_or image place [] inside) in
    record { size = block.size; low = block.bytes }

module _ (blocks : ℕ) (a b : Image) (ia : IsImage blocks a) (ib : IsImage blocks b) where
  Same : ℕ → Type 0
  Same place = bytes_of_block a place ≡ bytes_of_block b place

  -- a block is whole in both images, or outside of both
  both_sized : (place : ℕ) → (AreSized 4096 (bytes_of_block a place) × AreSized 4096 (bytes_of_block b place)) ⊎ (bytes_of_block a place ≡ bytes_of_block b place)
  both_sized place = elim (cases_lt place blocks) [
    | inl low ↦ inl (image_sized blocks a ia place low, image_sized blocks b ib place low)
    | inr past ↦ inr (get_or_past a place [] (omega (arith, past, ia.count)) ∙ sym (get_or_past b place [] (omega (arith, past, ib.count))))
  ]

  has_one : {R K : Type 0} (s : Shape R K) (v : Volume) → IsShort s v → (first second n m : ℕ) (records : List R) (places : List ℕ)
      → length places ≡ sum (rows_of s.layout.leaf_cap s.layout.node_cap (length records)) → HasTree s v a first n records places → HasTree s v b second m records places → All Same places
  unfolding Same
  has_one s v is first second n m records places long ha hb =
      let count : ℕ → ℕ = λ k. sum (rows_of s.layout.leaf_cap s.layout.node_cap k) in
      let settled : length places ≡ count (length (map s.settled records)) = long ∙ ap count (sym (length-map records s.settled)) in
      tree_one s v is a b both_sized (map s.settled records) places settled ha.packed hb.packed (λ k d low. record {
        first_lsn = ha.lsns k d low;
        second_lsn = hb.lsns k d low;
        first_exact = ha.exact k d low;
        second_exact = hb.exact k d low;
      })

  module _ (v : Volume) (ag : ℕ) (inodes : List InoRec) (p : GroupPlaced)
      (sizes : map (λ (t : TreeBlocks). length t.blocks) p.trees ≡ tree_sizes (length p.bno) (length inodes) (length p.fino) (length p.rmap))
      (many : length p.cnt ≡ length p.bno) (ha : HasTrees v a ag inodes p) (hb : HasTrees v b ag inodes p) where
    block_count : TreeBlocks → ℕ
    block_count t = length t.blocks

    five : length p.trees ≡ 5
    unfolding block_count
    five = sym (length-map p.trees block_count) ∙ ap length sizes

    size_is : (i : ℕ) → i < 5 → length (tree_places p i) ≡ get_or (tree_sizes (length p.bno) (length inodes) (length p.fino) (length p.rmap)) i 0
    unfolding block_count
    size_is i low = sym (get_or-map block_count p.trees i no_tree 0 (omega (arith, low, five))) ∙ ap (λ (xs : List ℕ). get_or xs i 0) sizes

    group_same : All Same (group_tree_places p)
    group_same =
        All-append Same _ (tree_places p 4)
        (All-append Same _ (tree_places p 3)
        (All-append Same _ (tree_places p 2)
        (All-append Same (tree_places p 0) (tree_places p 1)
        (has_one (bno_shape ag) v (bno_short v ag) _ _ _ _ p.bno (tree_places p 0) (size_is 0 (omega arith)) ha.bno hb.bno)
        (has_one (cnt_shape ag) v (cnt_short v ag) _ _ _ _ p.cnt (tree_places p 1) (size_is 1 (omega arith) ∙ ap (λ (n : ℕ). sum (rows_of 505 336 n)) (sym many)) ha.cnt hb.cnt))
        (has_one (ino_shape ag) v (ino_short v ag) _ _ _ _ inodes (tree_places p 2) (size_is 2 (omega arith)) ha.ino hb.ino))
        (has_one (fino_shape ag) v (fino_short v ag) _ _ _ _ p.fino (tree_places p 3) (size_is 3 (omega arith)) ha.fino hb.fino))
        (has_one (rmap_shape ag) v (rmap_short v ag) _ _ _ _ p.rmap (tree_places p 4) (size_is 4 (omega arith)) ha.rmap hb.rmap)

pub group_trees_one : (v : Volume) (ag blocks : ℕ) (inodes : List InoRec) (p : GroupPlaced) (a b : Image) → IsImage blocks a → IsImage blocks b
    → map (λ (t : TreeBlocks). length t.blocks) p.trees ≡ tree_sizes (length p.bno) (length inodes) (length p.fino) (length p.rmap) → length p.cnt ≡ length p.bno
    → HasTrees v a ag inodes p → HasTrees v b ag inodes p → All (λ k. bytes_of_block a k ≡ bytes_of_block b k) (group_tree_places p)
unfolding Same
group_trees_one v ag blocks inodes p a b ia ib sizes many ha hb = group_same blocks a b ia ib v ag inodes p sizes many ha hb

-- what holds of what each item gives
all_flat : {X : Type 0} (P : ℕ → Type 0) (f : X → List ℕ) (xs : List X) → ((k : ℕ) (d : X) → k < length xs → All P (f (get_or xs k d))) → All P (flat_map f xs)
all_flat P f [] each = All-nil P
all_flat P f (x ∷ xs) each =
    All-append P (f x) (flat_map f xs) (each zero x (omega arith)) (all_flat P f xs (λ k d low. each (suc k) d (omega (arith, low))))

pub tree_blocks_one : (w : Wanted) (p : Placed) (blocks : ℕ) (a b : Image) → StandsFor w p → IsImage blocks a → IsImage blocks b
    → ((ag : ℕ) → ag < w.geometry.agcount → HasTrees (volume w) a ag (wanted_inodes w ag) (group_placed p ag))
    → ((ag : ℕ) → ag < w.geometry.agcount → HasTrees (volume w) b ag (wanted_inodes w ag) (group_placed p ag))
    → All (λ k. bytes_of_block a k ≡ bytes_of_block b k) (tree_blocks p)
tree_blocks_one w p blocks a b stands ia ib ha hb =
    all_flat (λ k. bytes_of_block a k ≡ bytes_of_block b k) group_tree_places p.groups (λ k d low.
    let inside : k < w.geometry.agcount = omega (arith, stands.groups'.all, low) in
    let same : get_or p.groups k no_group ≡ get_or p.groups k d = get_or_default p.groups k no_group d low in
    let q : GroupPlaced = group_placed p k in
    let many : length q.cnt ≡ length q.bno = length_permutation q.bno q.cnt (stands.groups'.each k no_group inside).cnt.same in
    subst (λ (g : GroupPlaced). All (λ k. bytes_of_block a k ≡ bytes_of_block b k) (group_tree_places g)) same
    (group_trees_one (volume w) k blocks (wanted_inodes w k) q a b ia ib (stands.pool.each k no_group inside).sizes many (ha k inside) (hb k inside)))
