-- The nodes of a packed tree.
use Rattle.std.proofs.Common.{◌≡◌, ℕ, suc, ◌+◌, ◌*◌, ◌<◌, ◌≤◌, ◌==◌, inr, Bool, true, false, if◌then◌else◌, List, length, get_or, Option, Some, None, IsTrue, Less, refl, sym, ◌∙◌, ap, ap₂, subst, arith}
use Rattle.std.proofs.lemmas.Bool.Decides.{nat_tests}
use Rattle.std.proofs.lemmas.List.FromFn.{length-map-range_with_len, get_or-map-range_with_len}
use Rattle.xfs_disk.specs.Shares.{share_of, first_of_share}
use Rattle.xfs_disk.specs.Blocks.{Image, bytes_of_block}
use Rattle.xfs_geom.specs.Volumes.{Volume}
use Rattle.xfs_tree.specs.declared.seats.Seat.{Seat}
use Rattle.xfs_tree.specs.Shape.{Shape, IsKind}
use Rattle.xfs_tree.specs.Blocks.{count_of, capacity, each_of, record_at, records_of, low_at, high_at, child_at, children_of, low_key_at, high_key_at, lows_of}
use Rattle.xfs_tree.specs.Rules.{are_lawful, ascend_behind, last_of, low_of, high_of, block_fault}
use Rattle.xfs_tree.specs.Reading.{behind}
use Rattle.xfs_treebuild.specs.Packing.{own_seat, AreNodes}
use Rattle.xfs_treebuild.specs.Private.Placed.{share_in, left_in, right_in, seat_of, IsKey, IsNodeAt}
use Rattle.xfs_disk.proofs.Shares.{share_inside, share_most, share_some}
use Rattle.xfs_treebuild.proofs.PackingShares.{shares_all}
use Rattle.xfs_treebuild.proofs.PackingFaults.{first_of_some, block_kept, run_kept}
use Rattle.xfs_treebuild.proofs.PackingRows.{flat_by, map_by, from_start, share_item, share_count, firsts_up, Before, IsRising, highest_key, ascend_all}

-- a node's level is not that of leaves
pub higher : (level : ℕ) → (suc level == 0) ≡ false
higher level = grind (arith, nat_tests)

above_leaves : {A : Type 0} (level : ℕ) (leaf node : A) → (if suc level == 0 then leaf else node) ≡ node
above_leaves {A = A} level leaf node = ap (λ (r : Bool). if r then leaf else node) (higher level)

room_above : {R K : Type 0} (s : Shape R K) (level n : ℕ) → n ≤ s.layout.node_cap → n ≤ capacity s.layout (suc level)
room_above s level n room = subst (λ (most : ℕ). n ≤ most) (sym (above_leaves level s.layout.leaf_cap s.layout.node_cap)) room

low_above : {R K : Type 0} (s : Shape R K) (level : ℕ) (block : List ℕ) (k : ℕ) → low_key_at s (suc level) block k ≡ low_at s block k
low_above s level block k = above_leaves level (s.low (record_at s block k)) (low_at s block k)

high_above : {R K : Type 0} (s : Shape R K) (level : ℕ) (block : List ℕ) (k : ℕ) → high_key_at s (suc level) block k ≡ high_at s block k
high_above s level block k = above_leaves level (s.high (record_at s block k)) (high_at s block k)

module _ {R K : Type 0} (s : Shape R K) (v : Volume) (level below count : ℕ) (place : ℕ → ℕ) (block : ℕ → List ℕ) where
  abbrev pub seat : ℕ → Seat K
  seat j = seat_of s level (place j) (block j)

  -- the shares of a row of nodes over these blocks
  abbrev pub HoldShares : (ℕ → List ℕ) → Type 0
  HoldShares node = (i : ℕ) → i < count → children_of s v (node i) ≡ share_in (each_of below seat) count i

  module _ (node : ℕ → List ℕ) (held : HoldShares node) (some : 1 ≤ count) (enough : count ≤ below) (room : below ≤ count * s.layout.node_cap)
      (was : IsRising s level below block) where
    pub node_count : (i : ℕ) → i < count → count_of (node i) ≡ share_of below count i
    node_count i inside =
        share_count (child_at s v (node i)) (count_of (node i)) (each_of below seat) count i (held i inside) inside
        ∙ ap (λ (n : ℕ). share_of n count i) (length-map-range_with_len seat 0 below)

    filled : (i : ℕ) → i < count → 1 ≤ count_of (node i)
    filled i inside =
        let is = node_count i inside in
        let one = share_some below count i some enough in
        omega (arith, is, one)

    within : (i : ℕ) → i < count → (k : ℕ) → k < count_of (node i) → first_of_share below count i + k < below
    within i inside k less =
        let is = node_count i inside in
        let end = share_inside below count i inside in
        omega (arith, is, end, less)

    child_is : (i : ℕ) → i < count → (k : ℕ) → k < count_of (node i) → child_at s v (node i) k ≡ seat (first_of_share below count i + k)
    child_is i inside k less =
        let seats = each_of below seat in
        let d = child_at s v (node i) k in
        let many : length seats ≡ below = length-map-range_with_len seat 0 below in
        share_item (child_at s v (node i)) (count_of (node i)) seats count i (held i inside) inside k d less
        ∙ ap (λ (n : ℕ). get_or seats (first_of_share n count i + k) d) many
        ∙ get_or-map-range_with_len seat 0 below (first_of_share below count i + k) (first_of_share below count i + k) d (within i inside k less) (omega arith)

    low_is : (i : ℕ) → i < count → (k : ℕ) → k < count_of (node i) → Some (low_at s (node i) k) ≡ low_of s level (block (first_of_share below count i + k))
    low_is i inside k less = ap (λ (c : Seat K). c.low) (child_is i inside k less)

    high_is : s.layout.high ≡ true → (i : ℕ) → i < count → (k : ℕ) → k < count_of (node i)
        → Some (high_at s (node i) k) ≡ high_of s level (block (first_of_share below count i + k))
    high_is pairs i inside k less =
        let here : Option K = Some (high_at s (node i) k) in
        let there : Option K = high_of s level (block (first_of_share below count i + k)) in
        sym (ap (λ (r : Bool). if r then here else None) pairs) ∙ ap (λ (c : Seat K). c.high) (child_is i inside k less)
        ∙ ap (λ (r : Bool). if r then there else None) pairs

    full : (i : ℕ) → i < count → count_of (node i) ≤ s.layout.node_cap
    full i inside =
        let is = node_count i inside in
        let most = share_most below count i s.layout.node_cap inside room in
        omega (arith, is, most)

    lowest : (i : ℕ) → i < count → low_of s (suc level) (node i) ≡ low_of s level (block (first_of_share below count i + 0))
    lowest i inside = first_of_some (low_key_at s (suc level) (node i)) (count_of (node i)) (filled i inside)
        ∙ ap (λ (key : K). Some key) (low_above s level (node i) 0) ∙ low_is i inside 0 (filled i inside)

    pub nodes_rise : IsRising s (suc level) count node
    nodes_rise = record {
      child = λ j inside. record {
        full = room_above s level (count_of (node j)) (full j inside);
        low = subst (IsKey s) (sym (lowest j inside)) (was.child (first_of_share below count j + 0) (within j inside 0 (filled j inside))).low;
        high = λ pairs. highest_key s (high_key_at s (suc level) (node j)) (count_of (node j)) (filled j inside) (λ k less.
            let key : IsKey s (Some (high_at s (node j) k)) = subst (IsKey s) (sym (high_is pairs j inside k less)) ((was.child (first_of_share below count j + k) (within j inside k less)).high pairs) in
            subst (λ (h : K). IsTrue (s.fits_key h)) (sym (high_above s level (node j) k)) key);
      };
      rising = λ i j before inside.
          let in_i : i < count = omega arith in
          let up = firsts_up below count i j some enough before in
          subst (λ (key : Option K). Before s key (low_of s (suc level) (node j))) (sym (lowest i in_i))
          (subst (λ (key : Option K). Before s (low_of s level (block (first_of_share below count i + 0))) key) (sym (lowest j inside))
          (was.rising (first_of_share below count i + 0) (first_of_share below count j + 0) (omega (arith, up)) (within j inside 0 (filled j inside))));
    }

    -- the keys of a node ascend
    keys_up : (i : ℕ) → i < count → (a b : ℕ) → a < b → b < count_of (node i) → s.order (low_at s (node i) a) (low_at s (node i) b) ≡ Less
    keys_up i inside a b before less =
        let less_a : a < count_of (node i) = omega arith in
        subst (λ (key : Option K). Before s key (Some (low_at s (node i) b))) (sym (low_is i inside a less_a))
        (subst (λ (key : Option K). Before s (low_of s level (block (first_of_share below count i + a))) key) (sym (low_is i inside b less))
        (was.rising (first_of_share below count i + a) (first_of_share below count i + b) (omega arith) (within i inside b less)))

    pub node_kept : IsKind s → (row : List ℕ) (i : ℕ) → i < count → IsNodeAt s v (suc level) (each_of below seat) row i (node i)
        → block_fault s v (suc level) (left_in row i) (right_in row i) None (seat_of s (suc level) (get_or row i 0) (node i)) (node i) ≡ None
    node_kept kind row i inside at =
        block_kept s kind v (suc level) row i None (node i) at.headed (inr (filled i inside)) (room_above s level (count_of (node i)) (full i inside))
        (above_leaves level (are_lawful s v None (records_of s (node i))) (ascend_behind s None (lows_of s (suc level) (node i)))
        ∙ ascend_all s (low_key_at s (suc level) (node i)) (count_of (node i)) (λ a b before less.
        ap₂ s.order (low_above s level (node i) a) (low_above s level (node i) b) ∙ keys_up i inside a b before less))

module _ {R K : Type 0} (s : Shape R K) (v : Volume) (kind : IsKind s) (image : Image) (level : ℕ) (below row : List ℕ) where
  abbrev pub own_block : List ℕ → ℕ → List ℕ
  own_block places j = bytes_of_block image (get_or places j 0)

  abbrev pub own_at : ℕ → Seat K
  own_at = seat s v level (length below) (length row) (λ j. get_or below j 0) (own_block below)

  pub nodes_stand : 1 ≤ length row → length row ≤ length below → length below ≤ length row * s.layout.node_cap
      → IsRising s level (length below) (own_block below)
      → ((i : ℕ) → i < length row → IsNodeAt s v (suc level) (each_of (length below) own_at) row i (own_block row i))
      → AreNodes s v image below level row
  nodes_stand some enough room was at =
      let n = length below in
      let m = length row in
      let places : ℕ → ℕ = λ j. get_or below j 0 in
      let held : HoldShares s v level n m places (own_block below) (own_block row) = λ i inside. (at i inside).held in
      let many : length (each_of n own_at) ≡ n = length-map-range_with_len own_at 0 n in
      let count : (i : ℕ) → i < m → count_of (own_block row i) ≡ share_of n m i = λ i inside.
      node_count s v level n m places (own_block below) (own_block row) held some enough room was i inside in
      let none : ℕ → Option R = λ i. None in
      let here : (i : ℕ) → i < m → block_fault s v (suc level) (left_in row i) (right_in row i) (none i) (own_seat s v image (suc level) (get_or row i 0)) (own_block row i) ≡ None
      = λ i inside. node_kept s v level n m places (own_block below) (own_block row) held some enough room was kind row i inside (at i inside) in
      let next : (i : ℕ) → i < m → behind s v image (suc level) (none i) (own_seat s v image (suc level) (get_or row i 0)) ≡ none (i + 1) = λ i inside.
      above_leaves level (last_of None (records_of s (own_block row i))) None in
      record {
        sound = run_kept s v image (suc level) row none here next 0 m (omega arith);
        children = flat_by (λ (place : ℕ). children_of s v (bytes_of_block image place)) (share_in (each_of n own_at) m) 0 row 0
            (λ k inside. from_start (share_in (each_of n own_at) m) (children_of s v (own_block row k)) k (at k inside).held)
            ∙ shares_all (each_of n own_at) m some
            ∙ sym (map_by (own_seat s v image level) own_at 0 below 0 (λ k inside. from_start own_at (own_seat s v image level (get_or below k 0)) k refl));
        counts = map_by (λ (place : ℕ). count_of (bytes_of_block image place)) (share_of n m) 0 row 0
            (λ k inside. from_start (share_of n m) (count_of (own_block row k)) k (count k inside));
      }
