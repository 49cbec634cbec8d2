-- Runs that are sorted and follow one another are apart, and the other way round.
use Rattle.std.proofs.Common.{◌≡◌, ℕ, suc, ◌+◌, ◌-◌, ◌^◌, ◌<◌, ◌≤◌, Bool, true, false, not, ◌&&◌, ◌||◌, nat_lt, nat_le, IsTrue, List, [], ◌∷◌, ◌++◌, map, length, Option, Some, None, refl, sym, ap, ◌∙◌, subst, arith, get_or}
use Rattle.std.specs.List.{list_all, list_any, All, AllByRecursion, IsDistinct}
use Rattle.std.specs.List.Sorted.{IsPermutation, IsSorted}
use Rattle.std.specs.Ordering.{is_lt, nat_cmp, ordering_then}
use Rattle.std.proofs.lemmas.Bool.{true≢false, and_parts, and_from, leb-true}
use Rattle.std.proofs.lemmas.Bool.Decides.{nat_tests}
use Rattle.std.proofs.lemmas.List.Sorted.{list_any-IsPermutation, IsPermutation-sym}
use Rattle.std.proofs.lemmas.List.Sums.{AllPass-from_list_all}
use Rattle.std.proofs.lemmas.Map.Keys.{IsDistinct-cons, IsDistinct-head, IsDistinct-tail, IsDistinct-from_apart, IsDistinct-IsPermutation}
use Rattle.xfs_word.specs.declared.extents.Extent.{Extent}
use Rattle.xfs_geom.specs.Volumes.{Volume}
use Rattle.xfs_kinds.specs.FileTrees.{is_extent, follows_offset, fits_extent}
use Rattle.xfs_kinds.specs.Groups.{lies_in_one_group}
use Rattle.xfs_tree.specs.Reading.{Contents}
use Rattle.xfs_inode.specs.contracts.claims.BlockRangeOrd.TheImpl.{cmp-value}
use Rattle.xfs_inode.specs.declared.claims.BlockRange.{BlockRange}
use Rattle.xfs_inode.specs.Private.Claims.{in_turn, begins_before, RangesRanked}
use Rattle.xfs_inode.specs.Files.{ranges_apart, are_blocks, are_extents, is_apart, is_placed, range_of, range_of_block, ranges_of}

-- the order of runs
before_from_cmp : (x y : BlockRange) → is_lt (cmp-value.it y x) ≡ false → begins_before x y ≡ true
before_from_cmp x y e = on x.start x.end y.start y.end e
  where
    on : (a b c d : ℕ) → is_lt (ordering_then (nat_cmp c a) (nat_cmp d b)) ≡ false → nat_le a c ≡ true
    on a b c d e = grind (arith, nat_tests)

before_trans : (x y z : BlockRange) → begins_before x y ≡ true → begins_before y z ≡ true → begins_before x z ≡ true
before_trans x y z one other = on x.start y.start z.start one other
  where
    on : (a b c : ℕ) → nat_le a b ≡ true → nat_le b c ≡ true → nat_le a c ≡ true
    on a b c one other = grind (arith, nat_tests)

all_before : (x y : BlockRange) → begins_before x y ≡ true → (ys : List BlockRange) → list_all (begins_before y) ys ≡ true → list_all (begins_before x) ys ≡ true
all_before x y e [] all = refl
all_before x y e (z ∷ zs) all =
    let parts = and_parts (begins_before y z) (list_all (begins_before y) zs) all in
    and_from (begins_before x z) (list_all (begins_before x) zs) (before_trans x y z e parts.0) (all_before x y e zs parts.1)

-- what a sort gives is in order
pub ranked_from_sort : (xs : List BlockRange) → IsSorted cmp-value.it xs → RangesRanked xs
ranked_from_sort [] sorted = tt
ranked_from_sort (x ∷ []) sorted = (refl, tt)
ranked_from_sort (x ∷ y ∷ ys) sorted =
    let first : begins_before x y ≡ true = before_from_cmp x y (sorted 0 x (omega arith) (omega arith)) in
    let later = λ (k : ℕ) (d : BlockRange) (low : 0 ≤ k) (high : k + 1 < length (y ∷ ys)).
    let shift : suc k + 1 ≡ suc (k + 1) = omega arith in
    subst (λ (n : ℕ). is_lt (cmp-value.it (get_or (x ∷ y ∷ ys) n d) (get_or (x ∷ y ∷ ys) (suc k) d)) ≡ false) shift (sorted (suc k) d (omega arith) (omega arith)) in
    let rest : RangesRanked (y ∷ ys) = ranked_from_sort (y ∷ ys) later in
    (and_from (begins_before x y) (list_all (begins_before x) ys) first (all_before x y first ys rest.0), rest)

-- runs that have a block in common, and runs without a block
abbrev meets : BlockRange → BlockRange → Bool
meets a b = not (is_apart a b)

abbrev is_empty : BlockRange → Bool
is_empty run = not (nat_lt run.start run.end)

or_parts : (a b : Bool) → (a || b) ≡ false → (a ≡ false) × (b ≡ false)
or_parts false b e = (refl, e)
or_parts true b e = absurd (true≢false e)

or_from : (a b : Bool) → a ≡ false → b ≡ false → (a || b) ≡ false
or_from false b e f = f
or_from true b e f = absurd (true≢false e)

meets_flips : (x y : BlockRange) → meets x y ≡ meets y x
meets_flips x y = on x.start x.end y.start y.end
  where
    on : (a b c d : ℕ) → not (nat_le b c || nat_le d a) ≡ not (nat_le d a || nat_le b c)
    on a b c d = grind (arith, nat_tests)

none_meet : (x : BlockRange) (xs : List BlockRange) → list_all (is_apart x) xs ≡ true → AllByRecursion (λ y. meets x y ≡ false) xs
none_meet x [] all = tt
none_meet x (y ∷ ys) all =
    let parts = and_parts (is_apart x y) (list_all (is_apart x) ys) all in
    (ap not parts.0, none_meet x ys parts.1)

all_apart : (x : BlockRange) (xs : List BlockRange) → AllByRecursion (λ y. meets x y ≡ false) xs → list_all (is_apart x) xs ≡ true
all_apart x [] all = refl
all_apart x (y ∷ ys) all = and_from (is_apart x y) (list_all (is_apart x) ys) (back (is_apart x y) all.0) (all_apart x ys all.1)
  where
    back : (t : Bool) → not t ≡ false → t ≡ true
    back true e = refl
    back false e = sym e

to_distinct : (xs : List BlockRange) → ranges_apart xs ≡ true → IsDistinct meets xs
unfolding ranges_apart
to_distinct [] apart = IsDistinct-from_apart meets [] (λ i j d low high. absurd (omega arith))
to_distinct (x ∷ xs) apart =
    let parts = and_parts (list_all (is_apart x) xs) (ranges_apart xs) apart in
    IsDistinct-cons meets x xs (none_meet x xs parts.0) (to_distinct xs parts.1)

from_distinct : (xs : List BlockRange) → IsDistinct meets xs → ranges_apart xs ≡ true
unfolding ranges_apart
from_distinct [] distinct = refl
from_distinct (x ∷ xs) distinct =
    and_from (list_all (is_apart x) xs) (ranges_apart xs) (all_apart x xs (IsDistinct-head meets x xs distinct)) (from_distinct xs (IsDistinct-tail meets x xs distinct))

moved_apart : (xs ys : List BlockRange) → IsPermutation xs ys → ranges_apart xs ≡ true → ranges_apart ys ≡ true
moved_apart xs ys moved apart = from_distinct ys (IsDistinct-IsPermutation meets meets_flips xs ys moved (to_distinct xs apart))

-- each begins at a block or behind it
abbrev above : ℕ → BlockRange → Bool
above b run = nat_le b run.start

all_lower : (a b : ℕ) → a ≤ b → (xs : List BlockRange) → list_all (above b) xs ≡ true → list_all (above a) xs ≡ true
all_lower a b low [] all = refl
all_lower a b low (x ∷ xs) all =
    let parts = and_parts (above b x) (list_all (above b) xs) all in
    and_from (above a x) (list_all (above a) xs) (on x.start parts.0) (all_lower a b low xs parts.1)
  where
    on : (c : ℕ) → nat_le b c ≡ true → nat_le a c ≡ true
    on c e = grind (arith, nat_tests)

apart_above : (x : BlockRange) (xs : List BlockRange) → list_all (above x.end) xs ≡ true → list_all (is_apart x) xs ≡ true
apart_above x [] all = refl
apart_above x (y ∷ ys) all =
    let parts = and_parts (above x.end y) (list_all (above x.end) ys) all in
    and_from (is_apart x y) (list_all (is_apart x) ys) (on x.start x.end y.start y.end parts.0) (apart_above x ys parts.1)
  where
    on : (a b c d : ℕ) → nat_le b c ≡ true → (nat_le b c || nat_le d a) ≡ true
    on a b c d e = grind (arith, nat_tests)

above_apart : (x : BlockRange) (xs : List BlockRange) → list_all (is_apart x) xs ≡ true → list_all (begins_before x) xs ≡ true → list_any is_empty xs ≡ false
    → list_all (above x.end) xs ≡ true
above_apart x [] all ranked some = refl
above_apart x (y ∷ ys) all ranked some =
    let parts = and_parts (is_apart x y) (list_all (is_apart x) ys) all in
    let later = and_parts (begins_before x y) (list_all (begins_before x) ys) ranked in
    let full = or_parts (is_empty y) (list_any is_empty ys) some in
    and_from (above x.end y) (list_all (above x.end) ys) (on x.start x.end y.start y.end parts.0 later.0 full.0) (above_apart x ys parts.1 later.1 full.1)
  where
    on : (a b c d : ℕ) → (nat_le b c || nat_le d a) ≡ true → nat_le a c ≡ true → not (nat_lt c d) ≡ false → nat_le b c ≡ true
    on a b c d e f h = grind (arith, nat_tests)

-- runs in turn are apart
turn_apart : (b : ℕ) (xs : List BlockRange) → list_any is_empty xs ≡ false → in_turn b xs ≡ true → (list_all (above b) xs ≡ true) × (ranges_apart xs ≡ true)
unfolding ranges_apart
turn_apart b [] some turn = (refl, refl)
turn_apart b (x ∷ xs) some turn =
    let parts = and_parts (nat_le b x.start) (in_turn x.end xs) turn in
    let full = or_parts (is_empty x) (list_any is_empty xs) some in
    let rest = turn_apart x.end xs full.1 parts.1 in (
      and_from (above b x) (list_all (above b) xs) parts.0 (all_lower b x.end (on x.start x.end parts.0 full.0) xs rest.0),
      and_from (list_all (is_apart x) xs) (ranges_apart xs) (apart_above x xs rest.0) rest.1,
    )
  where
    on : (c d : ℕ) → nat_le b c ≡ true → not (nat_lt c d) ≡ false → b ≤ d
    on c d e f = grind (arith, nat_tests)

-- runs in order that are apart are in turn
apart_turn : (b : ℕ) (xs : List BlockRange) → list_any is_empty xs ≡ false → RangesRanked xs → list_all (above b) xs ≡ true → ranges_apart xs ≡ true → in_turn b xs ≡ true
unfolding ranges_apart
apart_turn b [] some ranked low apart = refl
apart_turn b (x ∷ xs) some ranked low apart =
    let parts = and_parts (list_all (is_apart x) xs) (ranges_apart xs) apart in
    let full = or_parts (is_empty x) (list_any is_empty xs) some in
    let first = and_parts (above b x) (list_all (above b) xs) low in
    and_from (nat_le b x.start) (in_turn x.end xs) first.0
    (apart_turn x.end xs full.1 ranked.1 (above_apart x xs parts.0 ranked.0 full.1) parts.1)

all_above_zero : (xs : List BlockRange) → list_all (above 0) xs ≡ true
all_above_zero [] = refl
all_above_zero (x ∷ xs) = and_from (above 0 x) (list_all (above 0) xs) (on x.start) (all_above_zero xs)
  where
    on : (c : ℕ) → nat_le 0 c ≡ true
    on c = grind (arith, nat_tests)

-- runs in order are in turn exactly where they were apart before they were put in order
pub turns : (xs ys : List BlockRange) → IsPermutation xs ys → RangesRanked ys → list_any is_empty xs ≡ false → in_turn 0 ys ≡ ranges_apart xs
turns xs ys moved ranked some = by_turn (in_turn 0 ys) refl
  where
    full : list_any is_empty ys ≡ false
    full = sym (list_any-IsPermutation is_empty xs ys moved) ∙ some

    by_turn : (t : Bool) → in_turn 0 ys ≡ t → t ≡ ranges_apart xs
    by_turn true e = sym (moved_apart ys xs (IsPermutation-sym xs ys moved) (turn_apart 0 ys full e).1)
    by_turn false e = by_apart (ranges_apart xs) refl
      where
        by_apart : (t : Bool) → ranges_apart xs ≡ t → false ≡ t
        by_apart false s = refl
        by_apart true s = sym e ∙ apart_turn 0 ys full ranked (all_above_zero ys) (moved_apart xs ys moved s)

-- extents of the volume and single blocks are not empty
extent_some : (v : Volume) (e : Extent) → is_extent v e ≡ true → 1 ≤ e.count
extent_some v e h =
    let a = and_parts (fits_extent e && nat_le 1 e.count && nat_le (e.offset + e.count) (2 ^ 54 - 1)) (lies_in_one_group v e.start e.count) h in
    let b = and_parts (fits_extent e && nat_le 1 e.count) (nat_le (e.offset + e.count) (2 ^ 54 - 1)) a.0 in
    leb-true 1 e.count (and_parts (fits_extent e) (nat_le 1 e.count) b.0).1

full_run : (a n : ℕ) → 1 ≤ n → not (nat_lt a (a + n)) ≡ false
full_run a n some = grind (arith, nat_tests)

pub each_extent : (v : Volume) (before : Option Extent) (es : List Extent) → are_extents v before es ≡ true → list_all (is_extent v) es ≡ true
each_extent v before [] all = refl
each_extent v before (e ∷ es) all =
    let parts = and_parts (is_extent v e && follows_offset before e) (are_extents v (Some e) es) all in
    and_from (is_extent v e) (list_all (is_extent v) es) (and_parts (is_extent v e) (follows_offset before e) parts.0).0 (each_extent v (Some e) es parts.1)

some_blocks : (blocks : List ℕ) → list_any is_empty (map range_of_block blocks) ≡ false
some_blocks [] = refl
some_blocks (b ∷ bs) = or_from (is_empty (range_of_block b)) (list_any is_empty (map range_of_block bs)) (full_run b 1 (omega arith)) (some_blocks bs)

some_extents : (v : Volume) (es : List Extent) (rest : List BlockRange) → list_all (is_extent v) es ≡ true → list_any is_empty rest ≡ false
    → list_any is_empty (map (range_of v) es ++ rest) ≡ false
some_extents v [] rest all full = full
some_extents v (e ∷ es) rest all full =
    let parts = and_parts (is_extent v e) (list_all (is_extent v) es) all in
    or_from (is_empty (range_of v e)) (list_any is_empty (map (range_of v) es ++ rest)) (full_run (range_of v e).start e.count (extent_some v e parts.0)) (some_extents v es rest parts.1 full)

each_placed : (v : Volume) (held : Contents Extent) → is_placed v held ≡ true → list_all (is_extent v) held.records ≡ true
each_placed v held placed = each_extent v None held.records (and_parts (are_extents v None held.records) (are_blocks v held.blocks) placed).0

pub placed_turns : (v : Volume) (held : Contents Extent) (ys : List BlockRange) → is_placed v held ≡ true → IsPermutation (ranges_of v held) ys → RangesRanked ys
    → in_turn 0 ys ≡ ranges_apart (ranges_of v held)
placed_turns v held ys placed moved ranked =
    turns (ranges_of v held) ys moved ranked (some_extents v held.records (map range_of_block held.blocks) (each_placed v held placed) (some_blocks held.blocks))

pub all_placed : (v : Volume) (held : Contents Extent) → is_placed v held ≡ true → All (λ (e : Extent). IsTrue (is_extent v e)) held.records
all_placed v held placed = AllPass-from_list_all (is_extent v) held.records (each_placed v held placed)
