-- Runs that are cut into extents: these lie in the volume in file order, and no two have a block in common.
use Rattle.std.proofs.Common.{◌≡◌, ℕ, zero, suc, ◌+◌, ◌-◌, ◌*◌, ◌/◌, ◌^◌, ◌≤◌, ◌<◌, Bool, true, false, cond, min, nat_le, nat_lt, List, [], ◌∷◌, ◌++◌, map, arith, refl, sym, ap, ap₂, ◌∙◌}
use Rattle.std.specs.List.{AllByRecursion, flat_map, range_with_len}
use Rattle.std.proofs.lemmas.Bool.{and_from, and_parts, both_ways, le-leb, leb-true, lt-ltb, ltb-true}
use Rattle.std.proofs.lemmas.List.{map-append}
use Rattle.xfs_word.specs.declared.extents.Extent.{Extent}
use Rattle.xfs_disk.proofs.OneOrder.{count-cons}
use Rattle.xfs_geom.specs.Conversions.{address_of}
use Rattle.xfs_geom.specs.Runs.{covers, runs_on}
use Rattle.xfs_geom.specs.Volumes.{Volume}
use Rattle.xfs_geom.specs.declared.records.Run.{Run}
use Rattle.xfs_kinds.specs.OffsetWords.{offset_in_fork}
use Rattle.xfs_place.specs.Objects.{most_extent_blocks}
use Rattle.xfs_place.specs.Wanted.{IsOffFixed}
use Rattle.xfs_filled.specs.Forks.{extent_of_piece, extents_of_run}

-- part i of a run, as long as an extent can be, and all parts of it
abbrev pub part : Run → ℕ → Run
part r i = record {
  start = r.start + i * most_extent_blocks;
  count = min most_extent_blocks (r.count - i * most_extent_blocks);
  owner = r.owner;
  offset_word = offset_in_fork r.offset_word + i * most_extent_blocks;
}

abbrev pub parts_from : Run → ℕ → ℕ → List Run
parts_from r a m = map (part r) (range_with_len a m)

abbrev pub cut : Run → List Run
cut r = parts_from r 0 ((r.count + (most_extent_blocks - 1)) / most_extent_blocks)

abbrev pub extent_by : Volume → Run → Extent
extent_by v p = record { offset = p.offset_word; start = address_of v p.start; count = p.count; unwritten = false }

-- the extents of runs are their parts
parts_are : (v : Volume) (r : Run) (a m : ℕ) → map (extent_of_piece v r) (range_with_len a m) ≡ map (extent_by v) (parts_from r a m)
parts_are v r a zero = refl
parts_are v r a (suc m) = ap (λ (es : List Extent). extent_of_piece v r a ∷ es) (parts_are v r (a + 1) m)

pub cuts_are : (v : Volume) (runs : List Run) → flat_map (extents_of_run v) runs ≡ map (extent_by v) (flat_map cut runs)
cuts_are v [] = refl
cuts_are v (r ∷ runs) =
    ap₂ (λ (xs ys : List Extent). xs ++ ys) (parts_are v r 0 ((r.count + (most_extent_blocks - 1)) / most_extent_blocks)) (cuts_are v runs)
    ∙ sym (map-append (extent_by v) (cut r) (flat_map cut runs))

-- a part that can be an extent
pub record IsPlacedPart (v : Volume) (p : Run) : Type 0 where
  pub clear : IsOffFixed v p
  pub some : 1 ≤ p.count
  pub inside : p.start + p.count ≤ v.dblocks
  pub few : p.count ≤ most_extent_blocks
  pub room : p.offset_word + p.count < 2 ^ 54

covers_says : (r : Run) (b : ℕ) → covers b r ≡ true → (r.start ≤ b) × (b < r.start + r.count)
covers_says r b is = let both = and_parts (nat_le r.start b) (nat_lt b (r.start + r.count)) is in (leb-true r.start b both.0, ltb-true b (r.start + r.count) both.1)

pub covers_from : (r : Run) (b : ℕ) → r.start ≤ b → b < r.start + r.count → covers b r ≡ true
covers_from r b low high = and_from (nat_le r.start b) (nat_lt b (r.start + r.count)) (le-leb r.start b low) (lt-ltb b (r.start + r.count) high)

-- which parts a run has
pub part_some : (r : Run) (i : ℕ) → i < (r.count + 2097150) / 2097151 → i * 2097151 + 1 ≤ r.count
part_some r i low = omega (arith, low)

part_placed : (v : Volume) (r : Run) (i : ℕ) → IsOffFixed v r → r.start + r.count ≤ v.dblocks → offset_in_fork r.offset_word + r.count < 2 ^ 54 → i * 2097151 + 1 ≤ r.count → IsPlacedPart v (part r i)
part_placed v r i clear inside room some =
    record {
      clear = λ b on. let there = covers_says (part r i) b on in let low = there.0 in let high = there.1 in clear b (covers_from r b (omega (arith, low)) (omega (arith, high, some)));
      some = omega (arith, some);
      inside = omega (arith, inside, some);
      few = omega arith;
      room = omega (arith, room, some);
    }

parts_placed : (v : Volume) (r : Run) (a m : ℕ) → IsOffFixed v r → r.start + r.count ≤ v.dblocks → offset_in_fork r.offset_word + r.count < 2 ^ 54 → a + m ≤ (r.count + 2097150) / 2097151
    → AllByRecursion (IsPlacedPart v) (parts_from r a m)
parts_placed v r a zero clear inside room all = tt
parts_placed v r a (suc m) clear inside room all = (
  part_placed v r a clear inside room (part_some r a (omega (arith, all))),
  parts_placed v r (a + 1) m clear inside room (omega (arith, all)),
)

append_all : (P : Run → Type 0) (xs ys : List Run) → AllByRecursion P xs → AllByRecursion P ys → AllByRecursion P (xs ++ ys)
append_all P [] ys first second = second
append_all P (x ∷ xs) ys first second = (first.0, append_all P xs ys first.1 second)

-- a run that can be cut
pub record CanCut (v : Volume) (r : Run) : Type 0 where
  pub clear : IsOffFixed v r
  pub inside : r.start + r.count ≤ v.dblocks
  pub room : offset_in_fork r.offset_word + r.count < 2 ^ 54

pub cuts_placed : (v : Volume) (runs : List Run) → AllByRecursion (CanCut v) runs → AllByRecursion (IsPlacedPart v) (flat_map cut runs)
cuts_placed v [] all = tt
cuts_placed v (r ∷ runs) all =
    append_all (IsPlacedPart v) (cut r) (flat_map cut runs) (parts_placed v r 0 ((r.count + 2097150) / 2097151) all.0.clear all.0.inside all.0.room (omega arith)) (cuts_placed v runs all.1)

-- no block is in two parts
pub count_append : (b : ℕ) (xs ys : List Run) → runs_on (xs ++ ys) b ≡ runs_on xs b + runs_on ys b
count_append b [] ys = omega arith
count_append b (x ∷ xs) ys =
    let all = count-cons (covers b) x (xs ++ ys) in
    let own = count-cons (covers b) x xs in
    let rest = count_append b xs ys in
    omega (arith, all, own, rest)

off_one : (b : ℕ) (p : Run) (t : Bool) → covers b p ≡ t → (covers b p ≡ true → ⊥) → ◌≡◌ {A = ℕ} (cond (covers b p) 1 0) 0
off_one b p true is off = absurd (off is)
off_one b p false is off = ap (λ (t : Bool). cond t 1 0) is

none_on : (r : Run) (a m b : ℕ) → ((i : ℕ) → a ≤ i → i < a + m → covers b (part r i) ≡ true → ⊥) → runs_on (parts_from r a m) b ≡ 0
none_on r a zero b off = refl
none_on r a (suc m) b off =
    let all = count-cons (covers b) (part r a) (parts_from r (a + 1) m) in
    let first = off_one b (part r a) (covers b (part r a)) refl (off a (omega arith) (omega arith)) in
    let rest = none_on r (a + 1) m b (λ i low high. off i (omega (arith, low)) (omega (arith, high))) in
    omega (arith, all, first, rest)

once_on : (r : Run) (a m b : ℕ) → runs_on (parts_from r a m) b ≤ 1
once_on r a zero b = omega arith
once_on r a (suc m) b = by_case (covers b (part r a)) refl (once_on r (a + 1) m b)
  where
    all : runs_on (parts_from r a (suc m)) b ≡ cond (covers b (part r a)) 1 0 + runs_on (parts_from r (a + 1) m) b
    all = count-cons (covers b) (part r a) (parts_from r (a + 1) m)

    by_case : (t : Bool) → covers b (part r a) ≡ t → runs_on (parts_from r (a + 1) m) b ≤ 1 → runs_on (parts_from r a (suc m)) b ≤ 1
    by_case true is behind =
        let here = covers_says (part r a) b is in
        let end = here.1 in
        let none = none_on r (a + 1) m b (λ i low high on. let there = covers_says (part r i) b on in let begin = there.0 in absurd (omega (arith, begin, end, low))) in
        let one : ◌≡◌ {A = ℕ} (cond (covers b (part r a)) 1 0) 1 = ap (λ (t : Bool). cond t 1 0) is in
        omega (arith, all, one, none)
    by_case false is behind =
        let one : ◌≡◌ {A = ℕ} (cond (covers b (part r a)) 1 0) 0 = ap (λ (t : Bool). cond t 1 0) is in
        omega (arith, all, one, behind)

cut_on : (r : Run) (b : ℕ) → runs_on (cut r) b ≤ cond (covers b r) 1 0
cut_on r b = by_case (covers b r) refl
  where
    n : ℕ
    n = (r.count + 2097150) / 2097151

    by_case : (t : Bool) → covers b r ≡ t → runs_on (cut r) b ≤ cond t 1 0
    by_case true is = once_on r 0 ((r.count + 2097150) / 2097151) b
    by_case false is =
        let none : runs_on (cut r) b ≡ 0 = none_on r 0 ((r.count + 2097150) / 2097151) b (λ i low high on.
        let there = covers_says (part r i) b on in
        let begin = there.0 in
        let end = there.1 in
        let some = part_some r i (omega (arith, high)) in
        both_ways (covers b r) is (covers_from r b (omega (arith, begin)) (omega (arith, end, some)))) in
        omega (arith, none)

pub cuts_on : (runs : List Run) (b : ℕ) → runs_on (flat_map cut runs) b ≤ runs_on runs b
cuts_on [] b = omega arith
cuts_on (r ∷ runs) b =
    let all = count-cons (covers b) r runs in
    let both = count_append b (cut r) (flat_map cut runs) in
    let one = cut_on r b in
    let rest = cuts_on runs b in
    omega (arith, all, both, one, rest)
