-- The places whose bytes are at hand for a rebuild: the first blocks of all groups, and of the kept clusters the blocks of which some
-- slot is to change.
use Rattle.std.proofs.Common.{◌≡◌, ℕ, ◌+◌, ◌*◌, ◌%◌, ◌≤◌, ◌<◌, inl, inr, Bool, true, false, cond, nat_le, nat_lt, List, [], ◌∷◌, ◌++◌, length, map, filter, get_or, Option, None, Some, refl, sym, ap, ◌∙◌, subst, arith}
use Rattle.std.specs.List.{All, flat_map, range_with_len}
use Rattle.std.proofs.Math.Nat.{mul-le-mul_right, mul-mod_left}
use Rattle.std.proofs.lemmas.Bool.{and_from, eq-eqb, false≢true, le-leb, lt-ltb, or_left}
use Rattle.std.proofs.lemmas.List.{get_or_append_left, length-append}
use Rattle.std.proofs.lemmas.List.Elements.{All-append, All-filter, All-from_recursion, All-nil, All-weaker, recursion_from_All}
use Rattle.std.proofs.lemmas.List.FromFn.{get_or-map-range_with_len, length-map-range_with_len}
use Rattle.std.specs.Option.{is_some}
use Rattle.xfs_geom.specs.Conversions.{inode_of}
use Rattle.xfs_geom.specs.Runs.{covers, runs_on}
use Rattle.xfs_geom.specs.Volumes.{Volume, volume_of}
use Rattle.xfs_geom.specs.declared.geometry.Geometry.{Geometry}
use Rattle.xfs_geom.specs.declared.records.Run.{Run}
use Rattle.xfs_image.specs.Slots.{cluster_blocks}
use Rattle.xfs_place.specs.Claims.{ClaimedOnce}
use Rattle.xfs_place.specs.Pool.{is_taken}
use Rattle.xfs_place.specs.Wanted.{IsOffFixed}
use Rattle.xfs_views.proofs.Counted.{on_both}
use Rattle.xfs_views.proofs.Members.{Member, all_members, filter_member, member_all, member_any, member_filter, member_flat, member_right, member_row}
use Rattle.xfs_render.specs.Plans.{IsOnce}
use Rattle.xfs_render.specs.Rendering.{is_head}
use Rattle.xfs_render.specs.Slots.{wanted_of}
use Rattle.xfs_render.specs.declared.wanted_slots.SlotWanted.{SlotWanted}
use Rattle.xfs_salvage.specs.Kept.{run_of_cluster}
use Rattle.xfs_space.proofs.Shared.{on-cons}
use Rattle.xfs_rename.proofs.xfs_made.OnceLists.{all_range, counted, counted_append, joined, rising_once}
use Rattle.xfs_rename.proofs.xfs_made.RowLists.{all_items}
use Rattle.xfs_rename.specs.xfs_rebuild.Places.{first_of_group, has_wanted, is_slot_wanted, old_places, wanted_blocks}
use Rattle.xfs_rename.specs.xfs_made.Unused.{AreHeadsOrKept, IsHeadOrKept}
use Rattle.xfs_rename.proofs.xfs_made.Counting.{counted_cons, row_on}
use Rattle.xfs_rename.proofs.xfs_made.PlansApart.{head_fixed, taken_left, taken_right, taken_unfixed}

abbrev heads : Volume → List ℕ
heads v = map (first_of_group v) (range_with_len 0 v.agcount)

abbrev clusters_blocks : List ℕ → List ℕ
clusters_blocks clusters = flat_map cluster_blocks clusters

-- the first blocks of groups
all_heads : (v : Volume) → All (λ block. is_head v block ≡ true) (heads v)
all_heads v = all_items (λ block. is_head v block ≡ true) (first_of_group v) 0 v.agcount (λ k low high. eq-eqb (k * v.agblocks % v.agblocks) 0 (mul-mod_left k v.agblocks))

heads_once : (g : Geometry) → IsOnce (heads (volume_of g))
heads_once g =
    let large = g.shape.groups.large in
    rising_once (λ ag. ag * g.agblocks) 0 g.agcount (λ i j less.
    let most : (i + 1) * g.agblocks ≤ j * g.agblocks = mul-le-mul_right g.agblocks (omega (arith, less)) in
    omega (arith, most, large))

-- the blocks of clusters, by their runs
clusters_on : (clusters : List ℕ) (at : ℕ) → counted at (clusters_blocks clusters) ≤ runs_on (map run_of_cluster clusters) at
clusters_on [] at = omega arith
clusters_on (c ∷ cs) at =
    let all = counted_append at (cluster_blocks c) (clusters_blocks cs) in
    omega (arith, all, row_on (run_of_cluster c) at, on-cons (run_of_cluster c) (map run_of_cluster cs) at, clusters_on cs at)

one_taken : (r : Run) (block : ℕ) → covers block r ≡ true → is_taken (r ∷ []) block ≡ true
unfolding is_taken
one_taken r block is = or_left (covers block r) false is

cluster_taken : (c : ℕ) → All (λ block. is_taken (run_of_cluster c ∷ []) block ≡ true) (cluster_blocks c)
cluster_taken c =
    all_range (λ block. is_taken (run_of_cluster c ∷ []) block ≡ true) c 4
    (λ k low high. one_taken (run_of_cluster c) k (and_from (nat_le c k) (nat_lt k (c + 4)) (le-leb c k low) (lt-ltb k (c + 4) high)))

pub clusters_taken : (clusters : List ℕ) → All (λ block. is_taken (map run_of_cluster clusters) block ≡ true) (clusters_blocks clusters)
clusters_taken [] = All-nil (λ block. is_taken [] block ≡ true)
clusters_taken (c ∷ cs) =
    let P : ℕ → Type 0 = λ block. is_taken (run_of_cluster c ∷ map run_of_cluster cs) block ≡ true in
    All-append P (cluster_blocks c) (clusters_blocks cs)
    (All-weaker (λ block. is_taken (run_of_cluster c ∷ []) block ≡ true) P (λ block is. taken_left (run_of_cluster c ∷ []) (map run_of_cluster cs) block is) (cluster_blocks c) (cluster_taken c))
    (All-weaker (λ block. is_taken (map run_of_cluster cs) block ≡ true) P (λ block is. taken_right (run_of_cluster c ∷ []) (map run_of_cluster cs) block is) (clusters_blocks cs) (clusters_taken cs))

-- what passes a test stands there as often as before, or not at all
passed_fewer : (test : ℕ → Bool) (at : ℕ) (xs : List ℕ) → counted at (filter test xs) ≤ counted at xs
passed_fewer test at [] = omega arith
passed_fewer test at (x ∷ xs) = by_test (test x) (passed_fewer test at xs)
  where
    by_test : (t : Bool) → counted at (filter test xs) ≤ counted at xs → counted at (cond t (x ∷ filter test xs) (filter test xs)) ≤ counted at (x ∷ xs)
    by_test true rest =
        let whole = counted_cons at x xs in
        let part = counted_cons at x (filter test xs) in
        omega (arith, rest, whole, part)
    by_test false rest = let whole = counted_cons at x xs in omega (arith, rest, whole)

passed_once : (test : ℕ → Bool) (xs : List ℕ) → IsOnce xs → IsOnce (filter test xs)
passed_once test xs once = record { each = λ at. let most = once.each at in let fewer = passed_fewer test at xs in omega (arith, most, fewer) }

-- all places are of these
pub places_used : (v : Volume) (clusters : List ℕ) (slots : List SlotWanted) → All (IsHeadOrKept v (map run_of_cluster clusters)) (old_places v clusters slots)
unfolding old_places
places_used v clusters slots =
    let P = IsHeadOrKept v (map run_of_cluster clusters) in
    All-append P (heads v) (wanted_blocks v clusters slots)
    (All-weaker (λ block. is_head v block ≡ true) P (λ block is. inl is) (heads v) (all_heads v))
    (All-filter (has_wanted v slots) P (clusters_blocks clusters)
    (All-weaker (λ block. is_taken (map run_of_cluster clusters) block ≡ true) P (λ block is. inr is) (clusters_blocks clusters) (clusters_taken clusters)))

-- and none of them stands twice, where the clusters are of runs that are apart and have no fixed block
module _ (g : Geometry) (clusters : List ℕ) (kept rest : List Run) (are : kept ≡ map run_of_cluster clusters ++ rest) (clear : All (IsOffFixed (volume_of g)) kept) (apart : ClaimedOnce kept) where
  of_kept : (block : ℕ) → is_taken (map run_of_cluster clusters) block ≡ true → is_taken kept block ≡ true
  of_kept block is = subst (λ (rs : List Run). is_taken rs block ≡ true) (sym are) (taken_left (map run_of_cluster clusters) rest block is)

  no_head : (block : ℕ) → is_taken (map run_of_cluster clusters) block ≡ true → is_head (volume_of g) block ≡ true → ⊥
  no_head block is head = false≢true (sym (taken_unfixed (volume_of g) kept block clear (of_kept block is)) ∙ head_fixed (volume_of g) block head)

  few : (at : ℕ) → runs_on (map run_of_cluster clusters) at ≤ 1
  few at =
      let all : runs_on kept at ≡ runs_on (map run_of_cluster clusters) at + runs_on rest at = ap (λ (rs : List Run). runs_on rs at) are ∙ on_both (map run_of_cluster clusters) rest at in
      omega (arith, all, apart.once at)

  blocks_once : IsOnce (clusters_blocks clusters)
  blocks_once = record { each = λ at. omega (arith, clusters_on clusters at, few at) }

  pub places_apart : (slots : List SlotWanted) → AreHeadsOrKept (volume_of g) kept (old_places (volume_of g) clusters slots)
  unfolding old_places
  places_apart slots =
      let v = volume_of g in
      record {
        once =
            joined (λ block. is_head v block ≡ true) (heads v) (wanted_blocks v clusters slots) (heads_once g)
            (passed_once (has_wanted v slots) (clusters_blocks clusters) blocks_once) (all_heads v)
            (All-filter (has_wanted v slots) (λ block. is_head v block ≡ true → ⊥) (clusters_blocks clusters)
            (All-weaker (λ block. is_taken (map run_of_cluster clusters) block ≡ true) (λ block. is_head v block ≡ true → ⊥) no_head (clusters_blocks clusters) (clusters_taken clusters)));
        each =
            All-weaker (IsHeadOrKept v (map run_of_cluster clusters)) (IsHeadOrKept v kept) widen (old_places v clusters slots) (places_used v clusters slots);
      }
    where
      widen : (block : ℕ) → IsHeadOrKept (volume_of g) (map run_of_cluster clusters) block → IsHeadOrKept (volume_of g) kept block
      widen block (inl head) = inl head
      widen block (inr taken) = inr (of_kept block taken)

-- the blocks of the clusters of which something is wanted are among them
pub cluster_place : (v : Volume) (clusters : List ℕ) (slots : List SlotWanted) (cluster block : ℕ) → Member cluster clusters → Member block (cluster_blocks cluster)
    → has_wanted v slots block ≡ true → Member block (old_places v clusters slots)
unfolding old_places
cluster_place v clusters slots cluster block is has wanted =
    member_right block (heads v) (wanted_blocks v clusters slots)
    (member_filter (has_wanted v slots) block (clusters_blocks clusters) (member_flat cluster_blocks cluster block clusters is has) wanted)

-- a block that begins no group, and of which nothing is wanted, is not; and nothing is wanted of its slots
pub unwanted_off : (v : Volume) (clusters : List ℕ) (slots : List SlotWanted) (block : ℕ) → is_head v block ≡ false → has_wanted v slots block ≡ false
    → All (λ place. place ≡ block → ⊥) (old_places v clusters slots)
unfolding old_places
unwanted_off v clusters slots block other none =
    let P : ℕ → Type 0 = λ place. place ≡ block → ⊥ in
    All-append P (heads v) (wanted_blocks v clusters slots)
    (All-weaker (λ place. is_head v place ≡ true) P (λ place head same. false≢true (sym other ∙ subst (λ (n : ℕ). is_head v n ≡ true) same head)) (heads v) (all_heads v))
    (All-from_recursion P (wanted_blocks v clusters slots)
    (all_members P (wanted_blocks v clusters slots)
    (λ place has same.
    let passed = filter_member (has_wanted v slots) place (clusters_blocks clusters) has in
    false≢true (sym none ∙ subst (λ (n : ℕ). has_wanted v slots n ≡ true) same passed.1))))

pub some_wanted : (v : Volume) (slots : List SlotWanted) (block k : ℕ) (w : SlotWanted) → k < 8 → wanted_of slots (inode_of v block k) ≡ Some w → has_wanted v slots block ≡ true
unfolding has_wanted
some_wanted v slots block k w few is = member_any (is_slot_wanted v slots block) k (range_with_len 0 8) (member_row k 0 8 (omega arith) (omega (arith, few))) (ap is_some is)

pub none_wanted : (v : Volume) (slots : List SlotWanted) (block k : ℕ) → has_wanted v slots block ≡ false → k < 8 → wanted_of slots (inode_of v block k) ≡ None
none_wanted v slots block k none few = by_case (wanted_of slots (inode_of v block k)) refl
  where
    by_case : (o : Option SlotWanted) → wanted_of slots (inode_of v block k) ≡ o → wanted_of slots (inode_of v block k) ≡ None
    by_case None is = is
    by_case (Some w) is = absurd (false≢true (sym none ∙ some_wanted v slots block k w few is))

pub cluster_taken_of : (clusters : List ℕ) (cluster block : ℕ) → Member cluster clusters → Member block (cluster_blocks cluster) → is_taken (map run_of_cluster clusters) block ≡ true
cluster_taken_of clusters cluster block is has =
    member_all (λ at. is_taken (map run_of_cluster clusters) at ≡ true) block (clusters_blocks clusters)
    (recursion_from_All (λ at. is_taken (map run_of_cluster clusters) at ≡ true) (clusters_blocks clusters) (clusters_taken clusters)) (member_flat cluster_blocks cluster block clusters is has)

-- the first block of a group stands at the group's place
pub head_place : (v : Volume) (clusters : List ℕ) (slots : List SlotWanted) (ag : ℕ) → ag < v.agcount
    → (ag < length (old_places v clusters slots)) × (get_or (old_places v clusters slots) ag 0 ≡ ag * v.agblocks)
unfolding old_places
head_place v clusters slots ag low =
    let rest : List ℕ = wanted_blocks v clusters slots in
    let count : length (heads v) ≡ v.agcount = length-map-range_with_len (first_of_group v) 0 v.agcount in
    let all : length (heads v ++ rest) ≡ length (heads v) + length rest = length-append (heads v) rest in (
      omega (arith, count, all, low),
      get_or_append_left (heads v) rest 0 ag (omega (arith, count, low)) ∙ get_or-map-range_with_len (first_of_group v) 0 v.agcount ag ag 0 low (omega arith),
    )
