-- The tree that is packed at places, read from the last of them.
use Rattle.std.proofs.Common.{◌≡◌, ℕ, suc, ◌+◌, ◌≤◌, List, [], ◌∷◌, ◌++◌, map, length, take, drop, Ok, refl, sym, ◌∙◌, ap, subst, arith}
use Rattle.std.proofs.lemmas.List.{nil_from_length, length-drop, length-map, take-append-drop}
use Rattle.std.proofs.lemmas.List.Sums.{sum_by-cons}
use Rattle.std.specs.Bool.{IsTrue}
use Rattle.std.specs.List.{All, sum}
use Rattle.std.specs.List.Sorted.{IsPermutation}
use Rattle.xfs_disk.specs.Blocks.{Image}
use Rattle.xfs_geom.specs.Volumes.{Volume}
use Rattle.xfs_tree.specs.declared.layout.Layout.{Layout}
use Rattle.xfs_tree.specs.Shape.{Shape}
use Rattle.xfs_tree.specs.Rules.{can_hold}
use Rattle.xfs_tree.specs.Reading.{root_seat, reading}
use Rattle.xfs_treebuild.specs.Packing.{HoldsParts, AreLevels, IsPacked, rows_in, rows_at, height_of, top_down, root_of, are_different}
use Rattle.xfs_treebuild.specs.Size.{rows_of}
use Rattle.xfs_treebuild.proofs.Apart.{joined, turned}
use Rattle.xfs_treebuild.proofs.PackedReads.{packed_reads}

-- rows of all places, joined, are the places
pub joined_rows : (sizes places : List ℕ) → length places ≡ sum sizes → joined (rows_in sizes places) ≡ places
joined_rows [] places all = sym (nil_from_length places all)
joined_rows (size ∷ sizes) places all =
    let first : sum (size ∷ sizes) ≡ size + sum sizes = sum_by-cons (λ (n : ℕ). n) size sizes in
    let cut = length-drop size places in
    let rest : length (drop size places) ≡ sum sizes = omega (arith, all, first, cut) in
    ap (λ (xs : List ℕ). take size places ++ xs) (joined_rows sizes (drop size places) rest) ∙ take-append-drop size places

pub count_rows : (sizes places : List ℕ) → length (rows_in sizes places) ≡ length sizes
count_rows [] places = refl
count_rows (size ∷ sizes) places = ap suc (count_rows sizes (drop size places))

-- there is a row of leaves
some_row : (leaf_cap node_cap records : ℕ) → 1 ≤ length (rows_of leaf_cap node_cap records)
unfolding rows_of
some_row leaf_cap node_cap records = omega arith

-- the blocks by level from the root are the places, in another order
pub blocks_are_places : (l : Layout) (records : ℕ) (places : List ℕ) → length places ≡ sum (rows_of l.leaf_cap l.node_cap records)
    → IsPermutation places (top_down (rows_at l records places))
blocks_are_places l records places all =
    let rows = rows_at l records places in
    subst (λ (xs : List ℕ). IsPermutation xs (top_down rows)) (joined_rows (rows_of l.leaf_cap l.node_cap records) places all) (turned rows)

module _ {R K : Type 0} (s : Shape R K) (v : Volume) (image : Image) where
  -- what is packed at lawful places that differ reads as its records and its blocks
  pub packed_tree_reads : (records : List R) (places : List ℕ) (n : ℕ) → n ≡ length records → IsPacked s v image records places
      → length places ≡ sum (rows_of s.layout.leaf_cap s.layout.node_cap n)
      → All (λ place. IsTrue (can_hold v s.layout s.owner place)) places → IsTrue (are_different places)
      → reading s v image (root_seat (root_of places) ∷ []) (height_of s.layout n)
      ≡ Ok (record { records = records; blocks = top_down (rows_at s.layout n places) })
  packed_tree_reads records places n count packed all can differ =
      let sizes = rows_of s.layout.leaf_cap s.layout.node_cap n in
      let rows = rows_at s.layout n places in
      let levels : AreLevels s v image records rows = subst (λ (m : ℕ). AreLevels s v image records (rows_at s.layout m places)) (sym count) packed in
      let whole : joined rows ≡ places = joined_rows sizes places all in
      let some = some_row s.layout.leaf_cap s.layout.node_cap n in
      let counted = count_rows sizes places in
      let levels_above : length rows ≡ suc (height_of s.layout n) = omega (arith, some, counted) in
      packed_reads s v image records rows (root_of places) (height_of s.layout n) levels (ap root_of (sym whole)) levels_above
      (subst (All (λ place. IsTrue (can_hold v s.layout s.owner place))) (sym whole) can)
      (subst (λ (xs : List ℕ). IsTrue (are_different xs)) (sym whole) differ)

-- so each image that has the bytes at the places reads as the records, as they are read after they were put
pub reads_where_held : {R K : Type 0} (s : Shape R K) (v : Volume) (records : List R) (places part : List ℕ)
    → ((image : Image) → HoldsParts image places part → IsPacked s v image (map s.settled records) places)
    → length places ≡ sum (rows_of s.layout.leaf_cap s.layout.node_cap (length records))
    → All (λ place. IsTrue (can_hold v s.layout s.owner place)) places → IsTrue (are_different places)
    → (image : Image) → HoldsParts image places part
    → reading s v image (root_seat (root_of places) ∷ []) (height_of s.layout (length records))
    ≡ Ok (record { records = map s.settled records; blocks = top_down (rows_at s.layout (length records) places) })
reads_where_held s v records places part packed all can differ image held =
    packed_tree_reads s v image (map s.settled records) places (length records) (sym (length-map records s.settled)) (packed image held) all can differ
