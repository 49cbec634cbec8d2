-- The leaves of a packed tree.
use Rattle.std.proofs.Common.{◌≡◌, ℕ, ◌+◌, ◌*◌, ◌<◌, ◌≤◌, inl, true, List, length, take, get_or, Option, Some, None, IsTrue, refl, sym, ◌∙◌, ap, subst, arith}
use Rattle.xfs_disk.specs.Shares.{share_of, first_of_share}
use Rattle.xfs_disk.specs.Blocks.{Image, bytes_of_block}
use Rattle.xfs_geom.specs.Volumes.{Volume}
use Rattle.xfs_tree.specs.Shape.{Shape, IsKind}
use Rattle.xfs_tree.specs.Blocks.{count_of, record_at, records_of, low_key_at, high_key_at}
use Rattle.xfs_tree.specs.Rules.{are_lawful, last_of, low_of, block_fault}
use Rattle.xfs_tree.specs.Reading.{behind}
use Rattle.xfs_treebuild.specs.Packing.{own_seat, own_seats, run_fault, AreLeaves}
use Rattle.xfs_treebuild.specs.Private.Placed.{share_in, left_in, right_in, IsKey, IsLeafAt}
use Rattle.xfs_disk.proofs.Shares.{share_inside, share_next, share_most, share_some}
use Rattle.xfs_treebuild.proofs.PackingShares.{shares_all}
use Rattle.xfs_treebuild.proofs.PackingOrder.{last_on, lawful_share, each_lawful, keys_rise}
use Rattle.xfs_treebuild.proofs.PackingFaults.{first_of_some, block_kept, run_kept}
use Rattle.xfs_treebuild.proofs.PackingRows.{flat_by, map_by, from_start, share_item, share_count, firsts_up, Before, IsRising, highest_key}

module _ {R K : Type 0} (s : Shape R K) (v : Volume) (kind : IsKind s) (xs : List R) (lawful : are_lawful s v None xs ≡ true) where
  leaf_full : (m i : ℕ) (block : List ℕ) → length xs ≤ m * s.layout.leaf_cap → i < m → records_of s block ≡ share_in xs m i
      → count_of block ≤ s.layout.leaf_cap
  leaf_full m i block room inside held =
      let count = share_count (record_at s block) (count_of block) xs m i held inside in
      let most = share_most (length xs) m i s.layout.leaf_cap inside room in
      omega (arith, count, most)

  pub leaves_stand : (image : Image) (row : List ℕ) → 1 ≤ length row → length xs ≤ length row * s.layout.leaf_cap
      → ((i : ℕ) → i < length row → IsLeafAt s v xs row i (bytes_of_block image (get_or row i 0))) → AreLeaves s v image xs row
  leaves_stand image row some room at =
      let n = length xs in
      let m = length row in
      let before : ℕ → Option R = λ i. last_of None (take (first_of_share n m i) xs) in
      let start : before 0 ≡ None = let none : first_of_share n m 0 ≡ 0 = omega arith in ap (λ (a : ℕ). last_of None (take a xs)) none in
      let here : (i : ℕ) → i < m → block_fault s v 0 (left_in row i) (right_in row i) (before i) (own_seat s v image 0 (get_or row i 0)) (bytes_of_block image (get_or row i 0)) ≡ None
      = λ i inside.
      let leaf = at i inside in
      let block = bytes_of_block image (get_or row i 0) in
      block_kept s kind v 0 row i (before i) block leaf.headed (inl refl) (leaf_full m i block room inside leaf.held)
      (ap (are_lawful s v (before i)) leaf.held ∙ lawful_share s v xs (first_of_share n m i) (share_of n m i) lawful) in
      let next : (i : ℕ) → i < m → behind s v image 0 (before i) (own_seat s v image 0 (get_or row i 0)) ≡ before (i + 1) = λ i inside.
      ap (last_of (before i)) (at i inside).held ∙ last_on xs (first_of_share n m i) (share_of n m i)
      ∙ ap (λ (a : ℕ). last_of None (take a xs)) (sym (share_next n m i)) in
      record {
        sound = subst (λ (b : Option R). run_fault s v image 0 None None b (own_seats s v image 0 row) ≡ None) start
            (run_kept s v image 0 row before here next 0 m (omega arith));
        held = flat_by (λ (place : ℕ). records_of s (bytes_of_block image place)) (share_in xs m) 0 row 0
            (λ k inside. from_start (share_in xs m) (records_of s (bytes_of_block image (get_or row k 0))) k (at k inside).held)
            ∙ shares_all xs m some;
        counts = map_by (λ (place : ℕ). count_of (bytes_of_block image place)) (share_of n m) 0 row 0
            (λ k inside. from_start (share_of n m) (count_of (bytes_of_block image (get_or row k 0))) k
            (share_count (record_at s (bytes_of_block image (get_or row k 0))) (count_of (bytes_of_block image (get_or row k 0))) xs m k (at k inside).held inside));
      }

  pub fits : (k : ℕ) (d : R) → k < length xs → IsTrue (s.fits (get_or xs k d))
  fits k d inside = kind.lawful_fits v None (get_or xs k d) (each_lawful s v kind xs lawful k d inside)

  pub leaves_rise : (m : ℕ) (block : ℕ → List ℕ) → 1 ≤ m → m ≤ length xs → length xs ≤ m * s.layout.leaf_cap
      → ((i : ℕ) → i < m → records_of s (block i) ≡ share_in xs m i) → IsRising s 0 m block
  leaves_rise m block some enough room held =
      let n = length xs in
      let count : (i : ℕ) → i < m → count_of (block i) ≡ share_of n m i = λ i inside.
      share_count (record_at s (block i)) (count_of (block i)) xs m i (held i inside) inside in
      let filled : (i : ℕ) → i < m → 1 ≤ count_of (block i) = λ i inside.
      let is = count i inside in
      let one = share_some n m i some enough in
      omega (arith, is, one) in
      let item : (i : ℕ) → i < m → (k : ℕ) (d : R) → k < count_of (block i) → record_at s (block i) k ≡ get_or xs (first_of_share n m i + k) d = λ i inside.
      share_item (record_at s (block i)) (count_of (block i)) xs m i (held i inside) inside in
      let within : (i : ℕ) → i < m → (k : ℕ) → k < count_of (block i) → first_of_share n m i + k < n = λ i inside k less.
      let is = count i inside in
      let end = share_inside n m i inside in
      omega (arith, is, end, less) in
      let low : (i : ℕ) → i < m → (d : R) → low_of s 0 (block i) ≡ Some (s.low (get_or xs (first_of_share n m i + 0) d)) = λ i inside d.
      first_of_some (low_key_at s 0 (block i)) (count_of (block i)) (filled i inside)
      ∙ ap (λ (r : R). Some (s.low r)) (item i inside 0 d (filled i inside)) in
      record {
        child = λ j inside.
            let d = record_at s (block j) 0 in
            record {
              full = leaf_full m j (block j) room inside (held j inside);
              low = subst (IsKey s) (sym (low j inside d)) (kind.low_fits (get_or xs (first_of_share n m j + 0) d) (fits (first_of_share n m j + 0) d (within j inside 0 (filled j inside))));
              high = λ pairs. highest_key s (high_key_at s 0 (block j)) (count_of (block j)) (filled j inside) (λ k less.
                  subst (λ (r : R). IsTrue (s.fits_key (s.high r))) (sym (item j inside k d less))
                  (kind.high_fits (get_or xs (first_of_share n m j + k) d) (fits (first_of_share n m j + k) d (within j inside k less))));
            };
        rising = λ i j before inside.
            let d = record_at s (block i) 0 in
            let in_i : i < m = omega arith in
            let up = firsts_up n m i j some enough before in
            let end = within j inside 0 (filled j inside) in
            subst (λ (key : Option K). Before s key (low_of s 0 (block j))) (sym (low i in_i d))
            (subst (λ (key : Option K). Before s (Some (s.low (get_or xs (first_of_share n m i + 0) d))) key) (sym (low j inside d))
            (keys_rise s v kind xs lawful (first_of_share n m i + 0) (first_of_share n m j + 0) d (omega (arith, up)) end));
      }
