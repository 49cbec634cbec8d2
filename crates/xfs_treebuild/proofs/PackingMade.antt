-- A block that was filled and headed is the one that its row needs.
use Rattle.std.proofs.Common.{◌≡◌, ℕ, ◌+◌, ◌-◌, ◌<◌, ◌≤◌, ◌≢◌, List, map, length, take, drop, get_or, sym, ◌∙◌, ap, ap₂, subst, below_more, arith}
use Rattle.std.proofs.lemmas.Bool.Decides.{nat_tests}
use Rattle.std.proofs.lemmas.List.{length-take-le, length-drop, get_or-take, get_or-drop}
use Rattle.std.proofs.lemmas.List.FromFn.{length-map-range_with_len}
use Rattle.xfs_disk.specs.Shares.{share_of, first_of_share}
use Rattle.xfs_word.specs.Field.{KeepsBeside, KeepsParts}
use Rattle.xfs_geom.specs.Volumes.{Volume}
use Rattle.xfs_tree.specs.declared.layout.Layout.{Layout}
use Rattle.xfs_tree.specs.declared.seats.Seat.{Seat}
use Rattle.xfs_tree.specs.Layout.{header_len}
use Rattle.xfs_tree.specs.Shape.{Shape}
use Rattle.xfs_tree.specs.Blocks.{count_of, capacity, record_at, child_at, each_of}
use Rattle.xfs_treebuild.specs.Packing.{block_of_part}
use Rattle.xfs_treebuild.specs.Exact.{IsExact}
use Rattle.xfs_treebuild.specs.Private.Placed.{IsHeaded, IsLeafAt, IsNodeAt, IsChild, seat_of, seats_in}
use Rattle.xfs_treebuild.proofs.PackingItems.{record_under_header, child_under_header}
use Rattle.xfs_treebuild.proofs.PackingShares.{each_is, each_share, share_made}

pub node_room : (l : Layout) (level n : ℕ) → n ≤ l.node_cap → n ≤ capacity l (level + 1)
node_room l level n room = grind (arith, nat_tests)

-- a block more of a run of bytes
pub one_more : (P : ℕ → List ℕ → Type 0) (old new block : List ℕ) (from i : ℕ) → block_of_part new (from + i) ≡ block
    → ((k : ℕ) → k ≢ from + i → block_of_part new k ≡ block_of_part old k) → P i block
    → ((j : ℕ) → j < i → P j (block_of_part old (from + j))) → (j : ℕ) → j < i + 1 → P j (block_of_part new (from + j))
one_more P old new block from i put others here below =
    below_more (λ j. P j (block_of_part new (from + j))) i
    (λ j before. let apart : from + j ≢ from + i = omega arith in subst (P j) (sym (others (from + j) apart)) (below j before))
    (subst (P i) (sym put) here)

-- a block more from the first on
pub next_more : (P : ℕ → List ℕ → Type 0) (old new block : List ℕ) (i : ℕ) → block_of_part new i ≡ block
    → ((k : ℕ) → k ≢ i → block_of_part new k ≡ block_of_part old k) → P i block
    → ((j : ℕ) → j < i → P j (block_of_part old j)) → (j : ℕ) → j < i + 1 → P j (block_of_part new j)
next_more P old new block i put others here below =
    below_more (λ j. P j (block_of_part new j)) i
    (λ j before. let apart : j ≢ i = omega arith in subst (P j) (sym (others j apart)) (below j before))
    (subst (P i) (sym put) here)

-- the blocks of a share are children still
pub children_here : {R K : Type 0} (s : Shape R K) (level : ℕ) (below : List ℕ) (start from share : ℕ) (old now : List ℕ) → from + share ≤ length below
    → ((k : ℕ) → k < start + length below → block_of_part now k ≡ block_of_part old k)
    → ((j : ℕ) → j < length below → IsChild s level (block_of_part old (start + j)))
    → (j : ℕ) → j < length (take (from + share - from) (drop from below)) → IsChild s level (block_of_part now (start + from + j))
children_here s level below start from share old now inside before children j within =
    let rest = length-drop from below in
    let len : length (take (from + share - from) (drop from below)) ≡ from + share - from = length-take-le (from + share - from) (drop from below) (omega (arith, rest, inside)) in
    let less : j < share = omega (arith, within, len) in
    let same : block_of_part now (start + from + j) ≡ block_of_part old (start + (from + j)) =
    before (start + from + j) (omega (arith, less, inside)) ∙ ap (block_of_part old) (omega arith) in
    subst (IsChild s level) (sym same) (children (from + j) (omega (arith, less, inside)))

module _ {R K : Type 0} (s : Shape R K) (v : Volume) where
  pub leaf_made : (records : List R) (row : List ℕ) (i first share : ℕ) (mid new : List ℕ)
      → share ≡ share_of (length records) (length row) i → first ≡ first_of_share (length records) (length row) i → first + share ≤ length records
      → ((k : ℕ) (d : R) → k < length (take (first + share - first) (drop first records))
      → record_at s mid k ≡ s.settled (get_or (take (first + share - first) (drop first records)) k d))
      → IsHeaded v s.layout s.owner 0 row i new → count_of new ≡ share → KeepsParts mid new 0 (header_len s.layout) → IsExact s new
      → IsLeafAt s v (map s.settled records) row i new
  leaf_made records row i first share mid new share_is first_is inside at headed count same exact =
      let taken = take (first + share - first) (drop first records) in
      let rest = length-drop first records in
      let len : length taken ≡ first + share - first = length-take-le (first + share - first) (drop first records) (omega (arith, rest, inside)) in
      record {
        headed = headed;
        held = each_is s.settled (record_at s new) taken (count_of new) (omega (arith, count, len))
            (λ k d before. record_under_header s mid new k same ∙ at k d (omega (arith, before, count, len)))
            ∙ share_made s.settled records (length row) i first share share_is first_is;
        exact = exact;
      }

  pub node_made : (level : ℕ) (below row : List ℕ) (i start from share : ℕ) (old now mid new : List ℕ)
      → share ≡ share_of (length below) (length row) i → from ≡ first_of_share (length below) (length row) i → from + share ≤ length below
      → ((k : ℕ) → k < start + length below → block_of_part now k ≡ block_of_part old k)
      → ((k : ℕ) → k < length (take (from + share - from) (drop from below))
      → child_at s v mid k ≡ seat_of s level (get_or (take (from + share - from) (drop from below)) k 0) (block_of_part now (start + from + k)))
      → IsHeaded v s.layout s.owner (level + 1) row i new → count_of new ≡ share
      → KeepsBeside mid new 0 (header_len s.layout) → KeepsParts mid new 0 (header_len s.layout) → IsExact s new
      → IsNodeAt s v (level + 1) (seats_in s level below start old) row i new
  node_made level below row i start from share old now mid new share_is from_is inside before at headed count same same_parts exact =
      let seat : ℕ → Seat K = λ j. seat_of s level (get_or below j 0) (block_of_part old (start + j)) in
      let seats = seats_in s level below start old in
      let taken = take (from + share - from) (drop from below) in
      let rest = length-drop from below in
      let len : length taken ≡ from + share - from = length-take-le (from + share - from) (drop from below) (omega (arith, rest, inside)) in
      let many : length below ≡ length seats = sym (length-map-range_with_len seat 0 (length below)) in
      let place : (k : ℕ) → k < share → get_or taken k 0 ≡ get_or below (from + k) 0 = λ k less.
      get_or-take (from + share - from) (drop from below) k 0 (omega (arith, less)) ∙ get_or-drop from below k 0 in
      let block : (k : ℕ) → k < share → block_of_part now (start + from + k) ≡ block_of_part old (start + (from + k)) = λ k less.
      before (start + from + k) (omega (arith, less, inside)) ∙ ap (block_of_part old) (omega arith) in
      let child : (k : ℕ) → k < share → child_at s v new k ≡ seat (from + k) = λ k less.
      child_under_header s v mid new k same same_parts ∙ at k (omega (arith, less, len))
      ∙ ap₂ (λ (p : ℕ) (b : List ℕ). seat_of s level p b) (place k less) (block k less) in
      record {
        headed = headed;
        held = ap (λ (n : ℕ). each_of n (child_at s v new)) count
            ∙ each_share seat (child_at s v new) (length below) share from inside child
            ∙ ap₂ (λ (n a : ℕ). take n (drop a seats))
            (share_is ∙ ap (λ (n : ℕ). share_of n (length row) i) many)
            (from_is ∙ ap (λ (n : ℕ). first_of_share n (length row) i) many);
        exact = exact;
      }
