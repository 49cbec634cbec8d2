-- A packed tree, level by level: what stands in the bytes stands in each image that holds them.
use Rattle.std.proofs.Common.{◌≡◌, ℕ, zero, suc, ◌+◌, ◌-◌, ◌*◌, ◌^◌, ◌<◌, ◌≤◌, ◌⊎◌, inl, inr, true, None, List, [], ◌∷◌, map, length, take, drop, get_or, refl, sym, ◌∙◌, ap, ap₂, subst, arith}
use Rattle.std.specs.List.{range_with_len, sum}
use Rattle.std.proofs.Math.Pow.{pow-lt}
use Rattle.std.proofs.Math.Nat.{mul-le-mul_left, mul_assoc}
use Rattle.std.proofs.lemmas.Nat.{pow-add}
use Rattle.std.proofs.lemmas.Bool.{cases_lt}
use Rattle.std.proofs.lemmas.List.{length-take-le, length-drop, get_or-take, get_or-drop, drop-drop, take_all}
use Rattle.xfs_disk.specs.Blocks.{Image, bytes_of_block}
use Rattle.xfs_geom.specs.Volumes.{Volume}
use Rattle.xfs_tree.specs.declared.seats.Seat.{Seat}
use Rattle.xfs_tree.specs.Shape.{Shape, IsKind}
use Rattle.xfs_treebuild.specs.Size.{blocks_for, rows_above, rows_of}
use Rattle.xfs_tree.specs.Blocks.{each_of, records_of, children_of}
use Rattle.xfs_tree.specs.Rules.{are_lawful}
use Rattle.xfs_treebuild.specs.Packing.{block_of_part, HoldsParts, rows_in, AreLeaves, AreNodes, AreRows, AreLevels, IsPacked}
use Rattle.xfs_treebuild.specs.Private.Placed.{share_in, seat_of, seats_in, IsLeafAt, IsNodeAt}
use Rattle.xfs_treebuild.proofs.Rows.{rows_end, rows_next, levels_end}
use Rattle.xfs_treebuild.proofs.PackingRows.{IsRising, rising_same}
use Rattle.xfs_treebuild.proofs.PackingLeaves.{leaves_stand, leaves_rise}
use Rattle.xfs_treebuild.proofs.PackingNodes.{HoldShares, nodes_rise, nodes_stand, own_at, own_block}

each_same : {A : Type 0} (f g : ℕ → A) (a n : ℕ) → ((k : ℕ) → k < n → f (a + k) ≡ g (a + k)) → map f (range_with_len a n) ≡ map g (range_with_len a n)
each_same f g a zero same = refl
each_same f g a (suc n) same =
    let start : a + 0 ≡ a = omega arith in
    let head : f a ≡ g a = subst (λ (k : ℕ). f k ≡ g k) start (same 0 (omega arith)) in
    ap₂ ◌∷◌ head (each_same f g (a + 1) n (λ k less.
    let on : a + suc k ≡ a + 1 + k = omega arith in
    subst (λ (j : ℕ). f j ≡ g j) on (same (suc k) (omega arith))))

-- places of a row
row_place : (places : List ℕ) (a w j : ℕ) → j < w → get_or (take w (drop a places)) j 0 ≡ get_or places (a + j) 0
row_place places a w j inside = get_or-take w (drop a places) j 0 inside ∙ get_or-drop a places j 0

pub row_length : (places : List ℕ) (a w : ℕ) → a + w ≤ length places → length (take w (drop a places)) ≡ w
row_length places a w inside = let rest = length-drop a places in length-take-le w (drop a places) (omega (arith, rest))

-- the blocks that an image holds at the first places
held_at : (image : Image) (places part : List ℕ) (b : ℕ) → b ≤ length places → HoldsParts image (take b places) part
    → (j : ℕ) → j < b → bytes_of_block image (get_or places j 0) ≡ block_of_part part j
held_at image places part b inside holds j less =
    let len : length (take b places) ≡ b = length-take-le b places inside in
    ap (bytes_of_block image) (sym (get_or-take b places j 0 less)) ∙ holds j (omega (arith, len, less))

-- an image that holds more blocks holds the first ones as they were
pub holds_before : (image : Image) (places old new : List ℕ) (a b : ℕ) → a ≤ b → b ≤ length places → ((k : ℕ) → k < a → block_of_part new k ≡ block_of_part old k)
    → HoldsParts image (take b places) new → HoldsParts image (take a places) old
holds_before image places old new a b up inside before holds j less =
    let len : length (take a places) ≡ a = length-take-le a places (omega arith) in
    let less_a : j < a = omega (arith, len) in
    ap (bytes_of_block image) (get_or-take a places j 0 less_a) ∙ held_at image places new b inside holds j (omega arith) ∙ before j less_a

module _ {R K : Type 0} (s : Shape R K) (v : Volume) where
  -- all is packed where the leaves are, and the rows above them
  pub whole_begins : (image : Image) (xs : List R) (places : List ℕ) (leaves : ℕ) → leaves ≡ blocks_for s.layout.leaf_cap (length xs)
      → AreLeaves s v image xs (take leaves places)
      → AreRows s v image (take leaves places) 0 (rows_in (rows_above leaves s.layout.node_cap leaves) (drop leaves places))
      → IsPacked s v image xs places
  unfolding rows_of AreLevels
  whole_begins image xs places leaves value at rows =
      subst (λ (n : ℕ). AreLeaves s v image xs (take n places)
      × AreRows s v image (take n places) 0 (rows_in (rows_above n s.layout.node_cap n) (drop n places))) value (at, rows)

  -- the rows above a row are the next one and those above it
  pub rows_step : (image : Image) (places : List ℕ) (level first count above : ℕ) → 2 ≤ s.layout.node_cap → 2 ≤ count
      → above ≡ blocks_for s.layout.node_cap count
      → AreNodes s v image (take count (drop first places)) level (take above (drop (first + count) places))
      → AreRows s v image (take above (drop (first + count) places)) (level + 1) (rows_in (rows_above above s.layout.node_cap above) (drop above (drop (first + count) places)))
      → AreRows s v image (take count (drop first places)) level (rows_in (rows_above count s.layout.node_cap count) (drop (first + count) places))
  unfolding AreRows
  rows_step image places level first count above two more value nodes rest =
      let cap' = s.layout.node_cap in
      let below = take count (drop first places) in
      let left = drop (first + count) places in
      let next : rows_above count cap' count ≡ above ∷ rows_above above cap' above =
      rows_next cap' count two more ∙ ap (λ (n : ℕ). n ∷ rows_above n cap' n) (sym value) in
      let up : level + 1 ≡ suc level = omega arith in
      subst (λ (sizes : List ℕ). AreRows s v image below level (rows_in sizes left)) (sym next)
      (nodes, subst (λ (l : ℕ). AreRows s v image (take above left) l (rows_in (rows_above above cap' above) (drop above left))) up rest)

  pub rows_done : (image : Image) (places : List ℕ) (level first count : ℕ) → count ≡ 1 → first + count ≤ length places
      → AreRows s v image (take count (drop first places)) level (rows_in (rows_above count s.layout.node_cap count) (drop (first + count) places))
  unfolding AreRows
  rows_done image places level first count one inside =
      let none : rows_above count s.layout.node_cap count ≡ [] = rows_end count s.layout.node_cap count (omega arith) in
      let len : length (take count (drop first places)) ≡ 1 = row_length places first count inside ∙ one in
      subst (λ (sizes : List ℕ). AreRows s v image (take count (drop first places)) level (rows_in sizes (drop (first + count) places))) (sym none) len

  -- the leaves that were written stand in an image that holds them
  pub leaves_packed : IsKind s → (image : Image) (xs : List R) (places part : List ℕ) (count : ℕ) → are_lawful s v None xs ≡ true
      → 1 ≤ count → count ≤ length places → length xs ≤ count * s.layout.leaf_cap
      → ((i : ℕ) → i < count → IsLeafAt s v xs (take count places) i (block_of_part part i)) → HoldsParts image (take count places) part
      → AreLeaves s v image xs (take count places)
  leaves_packed kind image xs places part count lawful some inside room at holds =
      let row = take count places in
      let len : length row ≡ count = length-take-le count places inside in
      leaves_stand s v kind xs lawful image row (omega (arith, len)) (subst (λ (m : ℕ). length xs ≤ m * s.layout.leaf_cap) (sym len) room) (λ i less.
      subst (IsLeafAt s v xs row i) (sym (holds i less)) (at i (omega (arith, len))))

  -- the nodes that were written stand in an image that holds them
  pub nodes_packed : IsKind s → (image : Image) (places old new : List ℕ) (level first count above : ℕ) → 1 ≤ above → above ≤ count → count ≤ above * s.layout.node_cap
      → first + count + above ≤ length places → IsRising s level count (λ j. block_of_part old (first + j))
      → ((k : ℕ) → k < first + count → block_of_part new k ≡ block_of_part old k)
      → ((i : ℕ) → i < above → IsNodeAt s v (level + 1) (seats_in s level (take count (drop first places)) first old)
      (take above (drop (first + count) places)) i (block_of_part new (first + count + i)))
      → HoldsParts image (take (first + count + above) places) new
      → AreNodes s v image (take count (drop first places)) level (take above (drop (first + count) places))
  nodes_packed kind image places old new level first count above some enough room inside was before at holds =
      let below = take count (drop first places) in
      let row = take above (drop (first + count) places) in
      let n : length below ≡ count = row_length places first count (omega arith) in
      let m : length row ≡ above = row_length places (first + count) above inside in
      let here : (j : ℕ) → j < count → own_block s v kind image level below row below j ≡ block_of_part old (first + j) = λ j less.
      ap (bytes_of_block image) (row_place places first count j less) ∙ held_at image places new (first + count + above) inside holds (first + j) (omega arith)
      ∙ before (first + j) (omega arith) in
      let there : (i : ℕ) → i < above → own_block s v kind image level below row row i ≡ block_of_part new (first + count + i) = λ i less.
      ap (bytes_of_block image) (row_place places (first + count) above i less) ∙ held_at image places new (first + count + above) inside holds (first + count + i) (omega arith) in
      let own : ℕ → Seat K = own_at s v kind image level below row in
      let seats : seats_in s level below first old ≡ each_of (length below) own =
      each_same (λ j. seat_of s level (get_or below j 0) (block_of_part old (first + j))) own 0 (length below) (λ k less.
      let on : 0 + k ≡ k = omega arith in
      let less_k : k < count = omega (arith, n) in
      subst (λ (j : ℕ). seat_of s level (get_or below j 0) (block_of_part old (first + j)) ≡ own j) (sym on)
      (ap (λ (b : List ℕ). seat_of s level (get_or below k 0) b) (sym (here k less_k)))) in
      let up : level + 1 ≡ suc level = omega arith in
      nodes_stand s v kind image level below row (omega (arith, m)) (omega (arith, m, n)) (subst (λ (k : ℕ). length below ≤ k * s.layout.node_cap) (sym m) (omega (arith, n)))
      (subst (λ (k : ℕ). IsRising s level k (own_block s v kind image level below row below)) (sym n) (rising_same s level count (λ j. block_of_part old (first + j)) (own_block s v kind image level below row below) here was))
      (λ i less.
      let less_i : i < above = omega (arith, m) in
      subst (λ (b : List ℕ). IsNodeAt s v (suc level) (each_of (length below) own) row i b) (sym (there i less_i))
      (subst (λ (l : ℕ). IsNodeAt s v l (each_of (length below) own) row i (block_of_part new (first + count + i))) up
      (subst (λ (ss : List (Seat K)). IsNodeAt s v (level + 1) ss row i (block_of_part new (first + count + i))) seats (at i less_i))))

  -- and their keys ascend
  pub nodes_rising : (places old new : List ℕ) (level first count above : ℕ) → 1 ≤ above → above ≤ count → count ≤ above * s.layout.node_cap
      → first + count + above ≤ length places → IsRising s level count (λ j. block_of_part old (first + j))
      → ((i : ℕ) → i < above → IsNodeAt s v (level + 1) (seats_in s level (take count (drop first places)) first old)
      (take above (drop (first + count) places)) i (block_of_part new (first + count + i)))
      → IsRising s (level + 1) above (λ i. block_of_part new (first + count + i))
  nodes_rising places old new level first count above some enough room inside was at =
      let below = take count (drop first places) in
      let row = take above (drop (first + count) places) in
      let block : ℕ → List ℕ = λ j. block_of_part old (first + j) in
      let node : ℕ → List ℕ = λ i. block_of_part new (first + count + i) in
      let place : ℕ → ℕ = λ j. get_or below j 0 in
      let n : length below ≡ count = row_length places first count (omega arith) in
      let m : length row ≡ above = row_length places (first + count) above inside in
      let seat : ℕ → Seat K = λ j. seat_of s level (place j) (block j) in
      let held : HoldShares s v level count above place block node = λ i less.
      subst (λ (k : ℕ). children_of s v (node i) ≡ share_in (each_of count seat) k i) m
      (subst (λ (k : ℕ). children_of s v (node i) ≡ share_in (each_of k seat) (length row) i) n (at i less).held) in
      let up : suc level ≡ level + 1 = omega arith in
      subst (λ (l : ℕ). IsRising s l above node) up (nodes_rise s v level count above place block node held some enough room was)

-- what was written at rows that are taken from the places
module _ {R K : Type 0} (s : Shape R K) (v : Volume) where
  pub nodes_at : (places below row old new : List ℕ) (level first count above : ℕ) → below ≡ take count (drop first places) → length below ≡ count
      → row ≡ take above (drop (first + count) places) → length row ≡ above
      → ((i : ℕ) → i < length row → IsNodeAt s v (level + 1) (seats_in s level below first old) row i (block_of_part new (first + length below + i)))
      → (i : ℕ) → i < above → IsNodeAt s v (level + 1) (seats_in s level (take count (drop first places)) first old)
      (take above (drop (first + count) places)) i (block_of_part new (first + count + i))
  nodes_at places below row old new level first count above below_is below_len row_is row_len at i less =
      subst (λ (r : List ℕ). IsNodeAt s v (level + 1) (seats_in s level (take count (drop first places)) first old) r i (block_of_part new (first + count + i))) row_is
      (subst (λ (b : List ℕ). IsNodeAt s v (level + 1) (seats_in s level b first old) row i (block_of_part new (first + count + i))) below_is
      (subst (λ (n : ℕ). IsNodeAt s v (level + 1) (seats_in s level below first old) row i (block_of_part new (first + n + i))) below_len (at i (omega (arith, less, row_len)))))

  pub leaves_at : (xs : List R) (places row part : List ℕ) (count : ℕ) → row ≡ take count places → length row ≡ count
      → ((i : ℕ) → i < length row → IsLeafAt s v xs row i (block_of_part part i)) → (i : ℕ) → i < count → IsLeafAt s v xs (take count places) i (block_of_part part i)
  leaves_at xs places row part count is len at i less =
      subst (λ (r : List ℕ). IsLeafAt s v xs r i (block_of_part part i)) is (at i (omega (arith, less, len)))

-- what holds of each block of the rows below and of each of the next row
pub each_next : (P : List ℕ → Type 0) (old new : List ℕ) (a b : ℕ) → ((k : ℕ) → k < a → block_of_part new k ≡ block_of_part old k)
    → ((k : ℕ) → k < a → P (block_of_part old k)) → ((i : ℕ) → i < b → P (block_of_part new (a + i)))
    → (j : ℕ) → j < a + b → P (block_of_part new j)
each_next P old new a b before was next j less = by_place (cases_lt j a)
  where
    by_place : (j < a) ⊎ (a ≤ j) → P (block_of_part new j)
    by_place (inl low) = subst P (sym (before j low)) (was j low)
    by_place (inr high) =
        let place : a + (j - a) ≡ j = omega arith in
        subst (λ (k : ℕ). P (block_of_part new k)) place (next (j - a) (omega arith))

-- the tree from its leaves on: what is packed once the rows above are
module _ {R K : Type 0} (s : Shape R K) (v : Volume) (kind : IsKind s) (xs : List R) (lawful : are_lawful s v None xs ≡ true) (places : List ℕ) where
  -- all is packed in an image that holds so many blocks, where the rows above a row are
  abbrev pub Leads : List ℕ → ℕ → ℕ → ℕ → Type 0
  Leads part level first count = (image : Image) → HoldsParts image (take (first + count) places) part
      → AreRows s v image (take count (drop first places)) level (rows_in (rows_above count s.layout.node_cap count) (drop (first + count) places))
      → IsPacked s v image xs places

  pub begin_leads : (part : List ℕ) (count : ℕ) → count ≡ blocks_for s.layout.leaf_cap (length xs) → 1 ≤ count → count ≤ length places
      → length xs ≤ count * s.layout.leaf_cap → ((i : ℕ) → i < count → IsLeafAt s v xs (take count places) i (block_of_part part i)) → Leads part 0 0 count
  begin_leads part count value some inside room at image holds rest =
      let start : 0 + count ≡ count = omega arith in
      whole_begins s v image xs places count value
      (leaves_packed s v kind image xs places part count lawful some inside room at (subst (λ (n : ℕ). HoldsParts image (take n places) part) start holds))
      (subst (λ (n : ℕ). AreRows s v image (take count places) 0 (rows_in (rows_above count s.layout.node_cap count) (drop n places))) start rest)

  pub begin_rises : (part : List ℕ) (count : ℕ) → 1 ≤ count → count ≤ length places → length xs ≤ count * s.layout.leaf_cap → count ≤ length xs
      → ((i : ℕ) → i < count → IsLeafAt s v xs (take count places) i (block_of_part part i)) → IsRising s 0 count (λ j. block_of_part part (0 + j))
  begin_rises part count some inside room enough at =
      let len : length (take count places) ≡ count = length-take-le count places inside in
      rising_same s 0 count (λ j. block_of_part part j) (λ j. block_of_part part (0 + j)) (λ j less. ap (block_of_part part) (omega arith))
      (leaves_rise s v kind xs lawful count (λ j. block_of_part part j) some enough room (λ i less.
      subst (λ (m : ℕ). records_of s (block_of_part part i) ≡ share_in xs m i) len (at i less).held))

  pub next_leads : (old new : List ℕ) (level first count above : ℕ) → 2 ≤ s.layout.node_cap → 2 ≤ count → above ≡ blocks_for s.layout.node_cap count
      → 1 ≤ above → above ≤ count → count ≤ above * s.layout.node_cap → first + count + above ≤ length places
      → IsRising s level count (λ j. block_of_part old (first + j))
      → ((k : ℕ) → k < first + count → block_of_part new k ≡ block_of_part old k)
      → ((i : ℕ) → i < above → IsNodeAt s v (level + 1) (seats_in s level (take count (drop first places)) first old)
      (take above (drop (first + count) places)) i (block_of_part new (first + count + i)))
      → Leads old level first count → Leads new (level + 1) (first + count) above
  next_leads old new level first count above two more value some enough room inside was before at leads image holds rest =
      let left : drop (first + count + above) places ≡ drop above (drop (first + count) places) = sym (drop-drop above (first + count) places) in
      leads image
      (holds_before image places old new (first + count) (first + count + above) (omega arith) inside before holds)
      (rows_step s v image places level first count above two more value
      (nodes_packed s v kind image places old new level first count above some enough room inside was before at holds)
      (subst (λ (ps : List ℕ). AreRows s v image (take above (drop (first + count) places)) (level + 1) (rows_in (rows_above above s.layout.node_cap above) ps)) left rest))

  pub end_leads : (part : List ℕ) (level first count : ℕ) → count ≡ 1 → first + count + sum (rows_above count s.layout.node_cap count) ≡ length places
      → Leads part level first count → (image : Image) → HoldsParts image places part → IsPacked s v image xs places
  end_leads part level first count one size leads image holds =
      let all : first + count ≡ length places = levels_end s.layout.node_cap count (first + count) (length places) (omega arith) size in
      leads image (subst (λ (ps : List ℕ). HoldsParts image ps part) (sym (take_all (first + count) places (omega (arith, all)))) holds)
      (rows_done s v image places level first count one (omega (arith, all)))

-- a level of two blocks or more is low
pub low_level : (level count : ℕ) → 2 ≤ count → 2 ^ level * (count - 1) < 2 ^ 62 → level < 63
low_level level count more low =
    let times : 2 ^ level * 1 ≤ 2 ^ level * (count - 1) = mul-le-mul_left (2 ^ level) (omega arith) in
    by_size (cases_lt level 63) (omega (arith, times))
  where
    by_size : (level < 63) ⊎ (63 ≤ level) → 2 ^ level < 2 ^ 62 → level < 63
    by_size (inl less) small = less
    by_size (inr high) small =
        let up : 2 ^ 62 < 2 ^ level = pow-lt {i = 62} {j = level} (omega arith) in
        absurd (omega arith)

-- and the level above it has at most half as many blocks
pub next_low : (level count above : ℕ) → 2 * above ≤ count + 1 → 2 ^ level * (count - 1) < 2 ^ 62 → 2 ^ (level + 1) * (above - 1) < 2 ^ 62
next_low level count above half low =
    let double : 2 ^ (level + 1) ≡ 2 ^ level * 2 = pow-add 2 level 1 in
    let turned : 2 ^ level * 2 * (above - 1) ≡ 2 ^ level * (2 * (above - 1)) = mul_assoc (2 ^ level) 2 (above - 1) in
    let fewer : 2 ^ level * (2 * (above - 1)) ≤ 2 ^ level * (count - 1) = mul-le-mul_left (2 ^ level) (omega arith) in
    rw (double, turned) (omega (arith, fewer, low))
