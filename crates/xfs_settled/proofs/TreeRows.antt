-- Two images that have one packed tree at the same places have the same blocks there: row by row, the leaves first.
use Rattle.std.proofs.Common.{◌≡◌, ℕ, suc, ◌+◌, ◌⊎◌, inl, inr, if◌then◌else◌, List, [], ◌∷◌, ◌++◌, length, take, drop, Option, Some, None, refl, sym, ◌∙◌, ap, ap₂, subst, arith}
use Rattle.std.specs.List.{All, AllByRecursion, flat_map, sum}
use Rattle.std.proofs.Math.Seq.{drop-append_seam, take-append_seam}
use Rattle.std.proofs.lemmas.List.{length-drop, take-append-drop}
use Rattle.std.proofs.lemmas.List.Elements.{All-append, All-drop, All-from_recursion, All-nil, All-take, recursion_from_All}
use Rattle.std.proofs.lemmas.List.Sums.{sum_by-cons}
use Rattle.std.proofs.lemmas.List.FromFn.{length-map-range_with_len}
use Rattle.xfs_disk.specs.Blocks.{Image, bytes_of_block}
use Rattle.xfs_geom.specs.Volumes.{Volume}
use Rattle.xfs_tree.specs.declared.seats.Seat.{Seat}
use Rattle.xfs_tree.specs.declared.unread.Unread.{Unread}
use Rattle.xfs_tree.specs.Blocks.{child_at, children_of, count_of, each_of, record_at, records_of}
use Rattle.xfs_tree.specs.Reading.{at_block, next_of}
use Rattle.xfs_tree.specs.Rules.{block_fault, high_of, low_of}
use Rattle.xfs_tree.specs.Shape.{Shape}
use Rattle.xfs_treebuild.specs.Exact.{IsExact}
use Rattle.xfs_treebuild.specs.Packing.{AreLevels, AreRows, IsPacked, counts_at, lsn_of, own_seat, own_seats, rows_at, rows_in, run_fault}
use Rattle.xfs_treebuild.specs.Size.{rows_of}
use Rattle.xfs_settled.specs.Sectors.{AreSized}
use Rattle.xfs_settled.proofs.TreeBlocks.{IsShort, IsTested, leaf_same, node_same, tested}

no_fault : (block : ℕ) (rule : Option ℕ) (later : Option Unread) → at_block block rule later ≡ None → (rule ≡ None) × (later ≡ None)
no_fault block None later h = (refl, h)
no_fault block (Some rule) later h = cc

first_one : (x y : ℕ) (xs ys : List ℕ) → x ∷ xs ≡ y ∷ ys → (x ≡ y) × (xs ≡ ys)
first_one x y xs ys same = (cc, cc)

-- the first items of two lists, as many of one as of the other, and the rest
front_one : {A : Type 0} (f g : ℕ → A) (m n : ℕ) (xs ys : List A) → m ≡ n → each_of m f ++ xs ≡ each_of n g ++ ys → (each_of m f ≡ each_of n g) × (xs ≡ ys)
front_one f g m n xs ys count same =
    let long : length (each_of m f) ≡ length (each_of n g) = length-map-range_with_len f 0 m ∙ count ∙ sym (length-map-range_with_len g 0 n) in (
      sym (take-append_seam (each_of m f) xs) ∙ ap₂ take long same ∙ take-append_seam (each_of n g) ys,
      sym (drop-append_seam (each_of m f) xs) ∙ ap₂ drop long same ∙ drop-append_seam (each_of n g) ys,
    )

-- lists cut into rows
AllRows : (ℕ → Type 0) → List (List ℕ) → Type 0
AllRows P rows = AllByRecursion (AllByRecursion P) rows

cut_rows : (P : ℕ → Type 0) (sizes places : List ℕ) → All P places → AllRows P (rows_in sizes places)
unfolding AllRows
cut_rows P [] places all = tt
cut_rows P (size ∷ sizes) places all = (recursion_from_All P (take size places) (All-take P size places all), cut_rows P sizes (drop size places) (All-drop P size places all))

join_rows : (P : ℕ → Type 0) (sizes places : List ℕ) → length places ≡ sum sizes → AllRows P (rows_in sizes places) → All P places
unfolding AllRows
join_rows P [] [] long all = All-nil P
join_rows P [] (place ∷ places) long all = absurd (omega (arith, long))
join_rows P (size ∷ sizes) places long all =
    let whole : sum (size ∷ sizes) ≡ size + sum sizes = sum_by-cons (λ (n : ℕ). n) size sizes in
    let rest : length (drop size places) ≡ sum sizes = omega (arith, length-drop size places, long, whole) in
    subst (All P) (take-append-drop size places)
    (All-append P (take size places) (drop size places) (All-from_recursion P (take size places) all.0) (join_rows P sizes (drop size places) rest all.1))

module _ {R K : Type 0} (s : Shape R K) (v : Volume) (is : IsShort s v) (a b : Image)
    (sized : (place : ℕ) → (AreSized 4096 (bytes_of_block a place) × AreSized 4096 (bytes_of_block b place)) ⊎ (bytes_of_block a place ≡ bytes_of_block b place)) where
  Same : ℕ → Type 0
  Same place = bytes_of_block a place ≡ bytes_of_block b place

  -- what a tree says of each of its blocks in both images
  pub record IsOpen (place : ℕ) : Type 0 where
    pub first_lsn : lsn_of s.layout (bytes_of_block a place) ≡ 0
    pub second_lsn : lsn_of s.layout (bytes_of_block b place) ≡ 0
    pub first_exact : IsExact s (bytes_of_block a place)
    pub second_exact : IsExact s (bytes_of_block b place)

  -- the place of the next block
  next_same : (level : ℕ) (places : List ℕ) → next_of None (own_seats s v a level places) ≡ next_of None (own_seats s v b level places)
  next_same level [] = refl
  next_same level (place ∷ places) = refl

  leaf_here : (place : ℕ) (left right : Option ℕ) → IsTested s v 0 left right place (bytes_of_block a place) → IsTested s v 0 left right place (bytes_of_block b place)
      → count_of (bytes_of_block a place) ≡ count_of (bytes_of_block b place) → IsOpen place
      → each_of (count_of (bytes_of_block a place)) (record_at s (bytes_of_block a place)) ≡ each_of (count_of (bytes_of_block b place)) (record_at s (bytes_of_block b place))
      → bytes_of_block a place ≡ bytes_of_block b place
  leaf_here place left right ta tb count at same = elim (sized place) [
    | inl both ↦
        leaf_same s v is 0 place left right (bytes_of_block a place) (bytes_of_block b place) both.0 both.1 ta tb count at.first_lsn at.second_lsn at.first_exact at.second_exact refl same
    | inr one ↦ one
  ]

  leaves_one : (places : List ℕ) (left : Option ℕ) (before other : Option R) → run_fault s v a 0 left None before (own_seats s v a 0 places) ≡ None
      → run_fault s v b 0 left None other (own_seats s v b 0 places) ≡ None
      → flat_map (λ place. records_of s (bytes_of_block a place)) places ≡ flat_map (λ place. records_of s (bytes_of_block b place)) places
      → counts_at s v a places ≡ counts_at s v b places → AllByRecursion IsOpen places → AllByRecursion Same places
  unfolding run_fault Same
  leaves_one [] left before other ra rb held counts all = tt
  leaves_one (place ∷ places) left before other ra rb held counts all =
      let x = bytes_of_block a place in
      let y = bytes_of_block b place in
      let fa = no_fault place _ _ ra in
      let fb = no_fault place _ _ rb in
      let right : Option ℕ = next_of None (own_seats s v b 0 places) in
      let here : block_fault s v 0 left right before (own_seat s v a 0 place) x ≡ None =
      subst (λ (o : Option ℕ). block_fault s v 0 left o before (own_seat s v a 0 place) x ≡ None) (next_same 0 places) fa.0 in
      let ta = tested s v 0 left right before (own_seat s v a 0 place) x here in
      let tb = tested s v 0 left right other (own_seat s v b 0 place) y fb.0 in
      let count = first_one (count_of x) (count_of y) (counts_at s v a places) (counts_at s v b places) counts in
      let items = front_one (record_at s x) (record_at s y) (count_of x) (count_of y) (flat_map (λ place. records_of s (bytes_of_block a place)) places) (flat_map (λ place. records_of s (bytes_of_block b place)) places) count.0 held in
      (leaf_here place left right ta tb count.0 all.0 items.0, leaves_one places (Some place) _ _ fa.1 fb.1 items.1 count.1 all.1)

  node_here : (level place : ℕ) (left right : Option ℕ) → IsTested s v (suc level) left right place (bytes_of_block a place) → IsTested s v (suc level) left right place (bytes_of_block b place)
      → count_of (bytes_of_block a place) ≡ count_of (bytes_of_block b place) → IsOpen place
      → each_of (count_of (bytes_of_block a place)) (child_at s v (bytes_of_block a place)) ≡ each_of (count_of (bytes_of_block b place)) (child_at s v (bytes_of_block b place))
      → bytes_of_block a place ≡ bytes_of_block b place
  node_here level place left right ta tb count at same = elim (sized place) [
    | inl both ↦
        node_same s v is (suc level) place left right (bytes_of_block a place) (bytes_of_block b place) both.0 both.1 ta tb count at.first_lsn at.second_lsn at.first_exact at.second_exact (omega arith) same
    | inr one ↦ one
  ]

  nodes_one : (level : ℕ) (places : List ℕ) (left : Option ℕ) (before other : Option R) → run_fault s v a (suc level) left None before (own_seats s v a (suc level) places) ≡ None
      → run_fault s v b (suc level) left None other (own_seats s v b (suc level) places) ≡ None
      → flat_map (λ place. children_of s v (bytes_of_block a place)) places ≡ flat_map (λ place. children_of s v (bytes_of_block b place)) places
      → counts_at s v a places ≡ counts_at s v b places → AllByRecursion IsOpen places → AllByRecursion Same places
  unfolding run_fault Same
  nodes_one level [] left before other ra rb held counts all = tt
  nodes_one level (place ∷ places) left before other ra rb held counts all =
      let x = bytes_of_block a place in
      let y = bytes_of_block b place in
      let fa = no_fault place _ _ ra in
      let fb = no_fault place _ _ rb in
      let right : Option ℕ = next_of None (own_seats s v b (suc level) places) in
      let here : block_fault s v (suc level) left right before (own_seat s v a (suc level) place) x ≡ None =
      subst (λ (o : Option ℕ). block_fault s v (suc level) left o before (own_seat s v a (suc level) place) x ≡ None) (next_same (suc level) places) fa.0 in
      let ta = tested s v (suc level) left right before (own_seat s v a (suc level) place) x here in
      let tb = tested s v (suc level) left right other (own_seat s v b (suc level) place) y fb.0 in
      let count = first_one (count_of x) (count_of y) (counts_at s v a places) (counts_at s v b places) counts in
      let items = front_one (child_at s v x) (child_at s v y) (count_of x) (count_of y) (flat_map (λ place. children_of s v (bytes_of_block a place)) places) (flat_map (λ place. children_of s v (bytes_of_block b place)) places) count.0 held in
      (node_here level place left right ta tb count.0 all.0 items.0, nodes_one level places (Some place) _ _ fa.1 fb.1 items.1 count.1 all.1)

  -- blocks that are the same have the same keys
  seats_same : (level : ℕ) (places : List ℕ) → AllByRecursion Same places → own_seats s v a level places ≡ own_seats s v b level places
  unfolding Same
  seats_same level [] all = refl
  seats_same level (place ∷ places) all =
      let seat : List ℕ → Seat K = λ block. let q : Seat K = record { place = place; low = low_of s level block; high = if s.layout.high then high_of s level block else None } in q in
      ap₂ ◌∷◌ (ap seat all.0) (seats_same level places all.1)

  rows_one : (below : List ℕ) (level : ℕ) (rows : List (List ℕ)) → AreRows s v a below level rows → AreRows s v b below level rows → AllByRecursion Same below
      → AllRows IsOpen rows → AllRows Same rows
  unfolding AreRows AllRows
  rows_one below level [] ra rb same all = tt
  rows_one below level (places ∷ rows) ra rb same all =
      let na = ra.0 in
      let nb = rb.0 in
      let here = nodes_one level places None None None na.sound nb.sound (na.children ∙ seats_same level below same ∙ sym nb.children) (na.counts ∙ sym nb.counts) all.0 in
      (here, rows_one places (suc level) rows ra.1 rb.1 here all.1)

  levels_one : (records : List R) (rows : List (List ℕ)) → AreLevels s v a records rows → AreLevels s v b records rows → AllRows IsOpen rows → AllRows Same rows
  unfolding AreLevels AllRows
  levels_one records [] la lb all = absurd la
  levels_one records (places ∷ rows) la lb all =
      let na = la.0 in
      let nb = lb.0 in
      let here = leaves_one places None None None na.sound nb.sound (na.held ∙ sym nb.held) (na.counts ∙ sym nb.counts) all.0 in
      (here, rows_one places 0 rows la.1 lb.1 here all.1)

  -- a whole tree
  pub tree_one : (records : List R) (places : List ℕ) → length places ≡ sum (rows_of s.layout.leaf_cap s.layout.node_cap (length records))
      → IsPacked s v a records places → IsPacked s v b records places → All IsOpen places → All (λ place. bytes_of_block a place ≡ bytes_of_block b place) places
  unfolding Same
  tree_one records places long pa pb all =
      let sizes = rows_of s.layout.leaf_cap s.layout.node_cap (length records) in
      join_rows Same sizes places long (levels_one records (rows_at s.layout (length records) places) pa pb (cut_rows IsOpen sizes places all))
