-- What is kept, as one run after another is put behind it.
use Rattle.std.proofs.Common.{◌≡◌, ℕ, zero, suc, ◌+◌, ◌-◌, ◌*◌, ◌/◌, ◌%◌, ◌≤◌, ◌<◌, ◌==◌, ◌^◌, inl, inr, Bool, true, false, not, ◌&&◌, ◌||◌, nat_le, nat_lt, if◌then◌else◌, List, [], ◌∷◌, ◌++◌, length, get_or, min, take, Some, None, refl, sym, ◌∙◌, ap, ap₂, arith}
use Rattle.std.specs.List.{list_all, list_any, range_with_len}
use Rattle.std.proofs.Math.Nat.{div-add-mod', div-lt_iff_lt-mul, mod-lt, mul-le-mul_right}
use Rattle.std.proofs.lemmas.Bool.{and_parts, cases_eq, cases_lt, cases_Bool, eqb-false, eqb-true, le-ltb, false_from_ne_true, le-leb, leb-true, lt-ltb, ltb-true, true≢false}
use Rattle.std.proofs.lemmas.List.{take-append-le, take_all}
use Rattle.std.proofs.lemmas.List.Elements.{All-push}
use Rattle.std.proofs.lemmas.Nat.{div-mul-add, mod-mul-add}
use Rattle.xfs_geom.specs.Runs.{covers, runs_on}
use Rattle.xfs_disk.specs.Lists.{is_in_range}
use Rattle.xfs_geom.specs.Conversions.{group_length, is_fixed}
use Rattle.xfs_geom.specs.Shape.{HasGroups}
use Rattle.xfs_geom.specs.Volumes.{Volume}
use Rattle.xfs_geom.specs.declared.records.Run.{Run}
use Rattle.xfs_place.specs.declared.uses.Use.{Use}
use Rattle.xfs_place.specs.declared.uses.Use.TheVariants.{Claimed}
use Rattle.xfs_place.specs.declared.wanted.RunAsk.{RunAsk}
use Rattle.xfs_place.specs.Pool.{MarksUses, Shows, is_listed, is_open, is_pool, is_pool_unspared, is_taken, is_unspared, use_at, use_of}
use Rattle.xfs_place.specs.Choice.{IsLeast, IsNone, in_pool, one_if}
use Rattle.xfs_place.specs.Claims.{IsClaimedRun}
use Rattle.xfs_place.specs.Finding.{AllOpen, AreCounts, AreOpenRows, Finds, HasRun, InRow, Opens, Takes, unspared_part}
use Rattle.xfs_place.specs.Greatest.{Holds, leaves_of}
use Rattle.xfs_place.specs.declared.greatest.Greatest.{Greatest}
use Rattle.xfs_place.proofs.RowRuns.{counts_listed, row_same, rows_under}
use Rattle.xfs_place.specs.Objects.{IsAsk, can_hold_object, first_with, lowest, lowest_run, most_blocks, run_at, spared_in}
use Rattle.xfs_place.specs.Wanted.{CanBeKept, IsOffFixed}
use Rattle.xfs_place.proofs.Found.{one_small}
use Rattle.xfs_place.proofs.ListedRows.{open_inside}
use Rattle.xfs_place.proofs.Ordered.{on_first}
use Rattle.xfs_place.proofs.Ranges.{all_pass}
use Rattle.xfs_place.proofs.Rooms.{open_is}

first_is : (test : ℕ → Bool) (i n s : ℕ) → i ≤ s → s < i + n → test s ≡ true → ((k : ℕ) → i ≤ k → k < s → test k ≡ false) → first_with test i n ≡ Some s
unfolding first_with
first_is test i zero s low high passes before = absurd (omega (arith, low, high))
first_is test i (suc n) s low high passes before = elim (cases_eq s i) [
  | inl here ↦
      let first : test i ≡ true = ap test (sym here) ∙ passes in
      rw first (ap Some (sym here))
  | inr there ↦
      let first : test i ≡ false = before i (omega arith) (omega (arith, low, there)) in
      rw first (first_is test (i + 1) n s (omega (arith, low, there)) (omega (arith, high)) passes (λ k from to. before k (omega (arith, from)) to))
]

first_none : (test : ℕ → Bool) (i n : ℕ) → ((k : ℕ) → i ≤ k → k < i + n → test k ≡ false) → first_with test i n ≡ None
unfolding first_with
first_none test i zero none = refl
first_none test i (suc n) none =
    let first : test i ≡ false = none i (omega arith) (omega arith) in
    rw first (first_none test (i + 1) n (λ k from to. none k (omega (arith, from)) (omega (arith, to))))

-- all numbers of a row pass where the test of all says so
each_passes : (test : ℕ → Bool) (from n b : ℕ) → list_all test (range_with_len from n) ≡ true → from ≤ b → b < from + n → test b ≡ true
each_passes test from zero b all low high = absurd (omega (arith, low, high))
each_passes test from (suc n) b all low high =
    let parts = and_parts (test from) (list_all test (range_with_len (from + 1) n)) all in
    elim (cases_eq b from) [
      | inl here ↦ ap test here ∙ parts.0
      | inr there ↦ each_passes test (from + 1) n b parts.1 (omega (arith, low, there)) (omega (arith, high))
    ]

or_false_parts : (x y : Bool) → (x || y) ≡ false → (x ≡ false) × (y ≡ false)
or_false_parts true y h = absurd (true≢false h)
or_false_parts false y h = (refl, h)

-- a block of the pool is not fixed, and no run has it
pool_parts : (v : Volume) (kept : List Run) (reserved : List ℕ) (b : ℕ) → is_pool v kept reserved b ≡ true → (is_fixed v b ≡ false) × (is_taken kept b ≡ false)
unfolding is_pool
pool_parts v kept reserved b free = by_case (is_fixed v b) (is_taken kept b) (is_listed reserved b) free
  where
    by_case : (f t l : Bool) → (not f && not t && not l) ≡ true → (f ≡ false) × (t ≡ false)
    by_case true true true h = absurd (true≢false (sym h))
    by_case true true false h = absurd (true≢false (sym h))
    by_case true false true h = absurd (true≢false (sym h))
    by_case true false false h = absurd (true≢false (sym h))
    by_case false true true h = absurd (true≢false (sym h))
    by_case false true false h = absurd (true≢false (sym h))
    by_case false false l h = (refl, refl)

on_more : (rs : List Run) (r : Run) (b : ℕ) → runs_on (rs ++ r ∷ []) b ≡ runs_on rs b + one_if (covers b r)
on_more [] r b = let none : runs_on [] b ≡ 0 = refl in omega (arith, on_first r [] b, none)
on_more (x ∷ rs) r b = omega (arith, on_first x (rs ++ r ∷ []) b, on_first x rs b, on_more rs r b)

none_there : (rs : List Run) (b : ℕ) → is_taken rs b ≡ false → runs_on rs b ≡ 0
unfolding is_taken
none_there [] b out = refl
none_there (x ∷ rs) b out =
    let parts = or_false_parts (covers b x) (list_any (covers b) rs) out in
    let first : one_if (covers b x) ≡ 0 = ap one_if parts.0 in
    omega (arith, on_first x rs b, first, none_there rs b parts.1)

taken_more : (rs : List Run) (r : Run) (b : ℕ) → is_taken (rs ++ r ∷ []) b ≡ (is_taken rs b || covers b r)
unfolding is_taken
taken_more [] r b = or_none (covers b r)
  where
    or_none : (x : Bool) → (x || false) ≡ x
    or_none true = refl
    or_none false = refl
taken_more (x ∷ rs) r b = ap (λ (t : Bool). covers b x || t) (taken_more rs r b) ∙ or_moved (covers b x) (list_any (covers b) rs) (covers b r)
  where
    or_moved : (x y z : Bool) → (x || (y || z)) ≡ ((x || y) || z)
    or_moved true y z = refl
    or_moved false y z = refl

pool_more : (v : Volume) (kept : List Run) (reserved : List ℕ) (r : Run) (b : ℕ) → is_pool v (kept ++ r ∷ []) reserved b ≡ (is_pool v kept reserved b && not (covers b r))
unfolding is_pool
pool_more v kept reserved r b =
    ap (λ (t : Bool). not (is_fixed v b) && not t && not (is_listed reserved b)) (taken_more kept r b) ∙ by_cases (is_fixed v b) (is_taken kept b) (is_listed reserved b) (covers b r)
  where
    by_cases : (f t l a : Bool) → (not f && not (t || a) && not l) ≡ ((not f && not t && not l) && not a)
    by_cases true true true a = refl
    by_cases true true false a = refl
    by_cases true false true true = refl
    by_cases true false true false = refl
    by_cases true false false true = refl
    by_cases true false false false = refl
    by_cases false true true a = refl
    by_cases false true false a = refl
    by_cases false false true true = refl
    by_cases false false true false = refl
    by_cases false false false true = refl
    by_cases false false false false = refl

-- each group lies in the volume
pub group_inside : (v : Volume) → HasGroups v.dblocks v.agblocks v.agcount → (ag : ℕ) → ag < v.agcount → ag * v.agblocks + group_length v ag ≤ v.dblocks
group_inside v groups ag low = by_case (ag + 1 == v.agcount) refl
  where
    by_case : (r : Bool) → (ag + 1 == v.agcount) ≡ r → ag * v.agblocks + (if r then v.dblocks - ag * v.agblocks else v.agblocks) ≤ v.dblocks
    by_case true last =
        let is : ag + 1 ≡ v.agcount = eqb-true (ag + 1) v.agcount last in
        let at : ag * v.agblocks ≡ (v.agcount - 1) * v.agblocks = ap (λ (n : ℕ). n * v.agblocks) (omega (arith, is)) in
        omega (arith, at, groups.last)
    by_case false other =
        let before : ag + 1 ≤ v.agcount - 1 = omega (arith, eqb-false (ag + 1) v.agcount other, low) in
        let most : (ag + 1) * v.agblocks ≤ (v.agcount - 1) * v.agblocks = mul-le-mul_right v.agblocks before in
        omega (arith, most, groups.last)

module _ (v : Volume) (groups : HasGroups v.dblocks v.agblocks v.agcount) (kept : List Run) (reserved : List ℕ) (from : ℕ) (spared : List ℕ) (free : ℕ → Type 0) (opens : Opens v kept reserved from spared free) where
  abbrev pool : ℕ → Bool
  pool = is_pool_unspared v kept reserved spared

  -- an open block is one of the pool of the volume, not before `from` in its group, and has no fixed use
  record IsOpenAt (b : ℕ) : Type 0 where
    inside : b < v.dblocks
    of_pool : is_pool v kept reserved b ≡ true
    here : pool b ≡ true
    late : from ≤ b % v.agblocks
    loose : is_fixed v b ≡ false

  open_at : (b : ℕ) → free b → IsOpenAt b
  open_at b is =
      let parts = and_parts (pool b) (nat_le from (b % v.agblocks)) (opens.passes b is) in
      let of_pool = (and_parts (is_pool v kept reserved b) (is_unspared v spared b) parts.0).0 in
      record { inside = opens.inside b is; of_pool = of_pool; here = parts.0; late = leb-true from (b % v.agblocks) parts.1; loose = (pool_parts v kept reserved b of_pool).0 }

  some : 0 < v.agblocks
  some = omega (arith, groups.large)

  -- a block in its group
  in_its_group : (b : ℕ) → b < v.dblocks → b / v.agblocks < v.agcount
  in_its_group b low = (div-lt_iff_lt-mul some).1 (omega (arith, low, groups.covered))

  -- the group's end is one of the volume, and no group is longer than others
  group_end : (b : ℕ) → b < v.dblocks → (b / v.agblocks * v.agblocks + group_length v (b / v.agblocks) ≤ v.dblocks) × (group_length v (b / v.agblocks) ≤ v.agblocks)
  group_end b low = by_case (b / v.agblocks + 1 == v.agcount) refl
    where
      by_case : (r : Bool) → (b / v.agblocks + 1 == v.agcount) ≡ r
          → (b / v.agblocks * v.agblocks + (if r then v.dblocks - b / v.agblocks * v.agblocks else v.agblocks) ≤ v.dblocks) × ((if r then v.dblocks - b / v.agblocks * v.agblocks else v.agblocks) ≤ v.agblocks)
      by_case true last =
          let whole : b / v.agblocks * v.agblocks + b % v.agblocks ≡ b = div-add-mod' b v.agblocks in
          let is : b / v.agblocks + 1 ≡ v.agcount = eqb-true (b / v.agblocks + 1) v.agcount last in
          let ends : (b / v.agblocks + 1) * v.agblocks ≡ v.agcount * v.agblocks = ap (λ (n : ℕ). n * v.agblocks) is in
          (omega (arith, whole, low), omega (arith, ends, groups.covered))
      by_case false other =
          let before : b / v.agblocks + 1 ≤ v.agcount - 1 = omega (arith, eqb-false (b / v.agblocks + 1) v.agcount other, in_its_group b low) in
          let most : (b / v.agblocks + 1) * v.agblocks ≤ (v.agcount - 1) * v.agblocks = mul-le-mul_right v.agblocks before in
          (omega (arith, most, groups.last), omega arith)

  -- a run of the definition is one of open blocks
  holds_back : (blocks b : ℕ) → 1 ≤ blocks → b < v.dblocks → can_hold_object v pool from blocks b ≡ true → HasRun free blocks b
  holds_back blocks b many low can =
      let few = and_parts (nat_le blocks most_blocks) _ can in
      let late = and_parts (nat_le from (b % v.agblocks)) _ few.1 in
      let fits = and_parts (nat_le (b % v.agblocks + blocks) (group_length v (b / v.agblocks))) (list_all pool (range_with_len b blocks)) late.1 in
      let from' : from ≤ b % v.agblocks = leb-true from (b % v.agblocks) late.0 in
      let in' : b % v.agblocks + blocks ≤ group_length v (b / v.agblocks) = leb-true (b % v.agblocks + blocks) (group_length v (b / v.agblocks)) fits.0 in
      let whole : b / v.agblocks * v.agblocks + b % v.agblocks ≡ b = div-add-mod' b v.agblocks in
      let end = group_end b low in (
        leb-true blocks most_blocks few.0,
        λ x from'' to.
            let inside : x < v.dblocks = omega (arith, to, in', whole, end.0) in
            let at : x ≡ b / v.agblocks * v.agblocks + (b % v.agblocks + (x - b)) = omega (arith, whole, from'') in
            let rest : x % v.agblocks ≡ b % v.agblocks + (x - b) =
            ap (λ (n : ℕ). n % v.agblocks) at ∙ mod-mul-add (b / v.agblocks) v.agblocks (b % v.agblocks + (x - b)) (omega (arith, to, from'', in', end.1)) in
            let passes : nat_le from (x % v.agblocks) ≡ true = le-leb from (x % v.agblocks) (omega (arith, rest, from')) in
            opens.all x inside (ap₂ ◌&&◌ (each_passes pool b blocks x fits.1 from'' to) passes),
      )

  first_fixed : (x : ℕ) → x % v.agblocks ≡ 0 → is_fixed v x ≡ false → ⊥
  first_fixed x none loose = true≢false (sym (ap (λ (n : ℕ). n == 0 || (nat_le v.log x && nat_lt x (v.log + v.logblocks))) none) ∙ loose)

  -- a run of open blocks stays in its group, since each group begins with a fixed block
  stays_in : (blocks b : ℕ) → 1 ≤ blocks → AllOpen free b blocks → (b + blocks ≤ v.dblocks) × (b % v.agblocks + blocks ≤ group_length v (b / v.agblocks))
  stays_in blocks b many all = (inside, by_case (b / v.agblocks + 1 == v.agcount) refl)
    where
      last : b + blocks - 1 < v.dblocks
      last = (open_at (b + blocks - 1) (all (b + blocks - 1) (omega (arith, many)) (omega (arith, many)))).inside

      inside : b + blocks ≤ v.dblocks
      inside = omega (arith, last)

      whole : b / v.agblocks * v.agblocks + b % v.agblocks ≡ b
      whole = div-add-mod' b v.agblocks

      by_case : (r : Bool) → (b / v.agblocks + 1 == v.agcount) ≡ r → b % v.agblocks + blocks ≤ (if r then v.dblocks - b / v.agblocks * v.agblocks else v.agblocks)
      by_case true is = omega (arith, whole, inside)
      by_case false is = elim (cases_lt v.agblocks (b % v.agblocks + blocks)) [
        | inr fits ↦ fits
        | inl over ↦
            let x = (b / v.agblocks + 1) * v.agblocks in
            let under : b % v.agblocks < v.agblocks = mod-lt b some in
            let at : x ≡ b / v.agblocks * v.agblocks + v.agblocks = omega arith in
            let here = open_at x (all x (omega (arith, at, whole, under)) (omega (arith, at, whole, over))) in
            let none : x % v.agblocks ≡ 0 = ap (λ (n : ℕ). n % v.agblocks) (omega arith) ∙ mod-mul-add (b / v.agblocks + 1) v.agblocks 0 some in
            absurd (first_fixed x none here.loose)
      ]

  holds_there : (blocks b : ℕ) → 1 ≤ blocks → HasRun free blocks b → can_hold_object v pool from blocks b ≡ true
  holds_there blocks b many has =
      let in' = stays_in blocks b many has.1 in
      let first = open_at b (has.1 b (omega arith) (omega (arith, many))) in
      let few : nat_le blocks most_blocks ≡ true = le-leb blocks most_blocks has.0 in
      let late : nat_le from (b % v.agblocks) ≡ true = le-leb from (b % v.agblocks) first.late in
      let fits : nat_le (b % v.agblocks + blocks) (group_length v (b / v.agblocks)) ≡ true = le-leb (b % v.agblocks + blocks) (group_length v (b / v.agblocks)) in'.1 in
      let all : list_all pool (range_with_len b blocks) ≡ true = all_pass pool b blocks (λ x low high. (open_at x (has.1 x low high)).here) in
      ap₂ ◌&&◌ few (ap₂ ◌&&◌ late (ap₂ ◌&&◌ fits all))

  pub lowest_is : (blocks s : ℕ) → 1 ≤ blocks → IsLeast (HasRun free blocks) s → lowest_run v (is_pool_unspared v kept reserved spared) from blocks ≡ Some s
  unfolding lowest_run
  lowest_is blocks s many least =
      let in' = stays_in blocks s many least.0.1 in
      first_is (can_hold_object v pool from blocks) 0 v.dblocks s (omega arith) (omega (arith, in'.0, many)) (holds_there blocks s many least.0)
      (λ k low before. false_from_ne_true (can_hold_object v pool from blocks k) (λ can. least.1 k before (holds_back blocks k many (omega (arith, before, in'.0)) can)))

  pub lowest_none : (blocks : ℕ) → 1 ≤ blocks → IsNone (HasRun free blocks) → lowest_run v (is_pool_unspared v kept reserved spared) from blocks ≡ None
  unfolding lowest_run
  lowest_none blocks many none =
      first_none (can_hold_object v pool from blocks) 0 v.dblocks
      (λ k low before. false_from_ne_true (can_hold_object v pool from blocks k) (λ can. none k (holds_back blocks k many (omega (arith, before)) can)))

  -- the definition finds the lowest runs of open blocks
  pub finds_lowest : Finds free (lowest v reserved from spared kept)
  finds_lowest = record {
    there = λ n s many least. lowest_is n s many least;
    none = λ n many none. lowest_none n many none;
  }

  -- what is kept with one more run
  pub kept_more : (ask : RunAsk) (s : ℕ) → IsAsk ask → HasRun free ask.blocks s → CanBeKept v kept → CanBeKept v (kept ++ run_at s ask ∷ [])
  kept_more ask s is has old = record {
    each = All-push (IsClaimedRun v.dblocks) kept (run_at s ask) old.each (record { some = is.some; inside = (stays_in ask.blocks s is.some has.1).0; fits = is.fits; plain = is.plain });
    clear = All-push (IsOffFixed v) kept (run_at s ask) old.clear (λ b of. (open_of b of).loose);
    apart = record {
      once = λ b. elim (cases_Bool (covers b (run_at s ask))) [
        | inl of ↦
            let one : one_if (covers b (run_at s ask)) ≤ 1 = one_small (covers b (run_at s ask)) in
            omega (arith, on_more kept (run_at s ask) b, none_there kept b (pool_parts v kept reserved b (open_of b of).of_pool).1, one)
        | inr out ↦
            let none : one_if (covers b (run_at s ask)) ≡ 0 = ap one_if out in
            omega (arith, on_more kept (run_at s ask) b, none, old.apart.once b)
      ];
    };
  }
    where
      open_of : (b : ℕ) → covers b (run_at s ask) ≡ true → IsOpenAt b
      open_of b of =
          let parts = and_parts (nat_le s b) (nat_lt b (s + ask.blocks)) of in
          open_at b (has.1 b (leb-true s b parts.0) (ltb-true b (s + ask.blocks) parts.1))

  -- what is free once the run is taken
  pub opens_more : (ask : RunAsk) (s : ℕ) (now : ℕ → Type 0) → Takes free now s ask.blocks → Opens v (kept ++ run_at s ask ∷ []) reserved from spared now
  opens_more ask s now takes = record {
    inside = λ b here. opens.inside b (takes.was b here);
    passes = λ b here. ap (λ (t : Bool). (t && is_unspared v spared b) && nat_le from (b % v.agblocks)) (pool_more v kept reserved (run_at s ask) b)
        ∙ put_in (is_pool v kept reserved b) (is_unspared v spared b) (nat_le from (b % v.agblocks)) (is_in_range s ask.blocks b) (opens.passes b (takes.was b here)) (takes.other b here);
    all = λ b low here.
        let parts = taken_out (is_pool v kept reserved b) (is_unspared v spared b) (nat_le from (b % v.agblocks)) (is_in_range s ask.blocks b)
        (sym (ap (λ (t : Bool). (t && is_unspared v spared b) && nat_le from (b % v.agblocks)) (pool_more v kept reserved (run_at s ask) b)) ∙ here) in
        takes.rest b (opens.all b low parts.0) parts.1;
  }
    where
      put_in : (p u f t : Bool) → ((p && u) && f) ≡ true → t ≡ false → (((p && not t) && u) && f) ≡ true
      put_in true u f true h none = absurd (true≢false none)
      put_in true u f false h none = h
      put_in false u f t h none = h

      taken_out : (p u f t : Bool) → (((p && not t) && u) && f) ≡ true → (((p && u) && f) ≡ true) × (t ≡ false)
      taken_out true u f true h = absurd (true≢false (sym h))
      taken_out true u f false h = (h, refl)
      taken_out false u f t h = absurd (true≢false (sym h))

-- the open blocks of a list of uses once the fronts of the groups are closed
pub open_first : (v : Volume) (kept : List Run) (reserved : List ℕ) (from : ℕ) (uses now : List Use) → Shows uses v.dblocks (use_of v kept reserved)
    → MarksUses uses now (λ b. nat_lt (b % v.agblocks) from) Claimed → (b : ℕ) → b < v.dblocks → in_pool now b ≡ (is_pool v kept reserved b && nat_le from (b % v.agblocks))
open_first v kept reserved from uses now shows marks b low = elim (cases_lt (b % v.agblocks) from) [
  | inl before ↦
      let out : nat_lt (b % v.agblocks) from ≡ true = lt-ltb (b % v.agblocks) from before in
      let late : nat_le from (b % v.agblocks) ≡ false = false_from_ne_true (nat_le from (b % v.agblocks)) (λ h. let so = leb-true from (b % v.agblocks) h in omega (arith, so, before)) in
      let closed : use_at now b ≡ Claimed = marks.each b (omega (arith, low, shows.all)) ∙ ap (λ (t : Bool). if t then Claimed else use_at uses b) out in
      ap is_open closed ∙ sym (ap (λ (t : Bool). is_pool v kept reserved b && t) late ∙ and_false (is_pool v kept reserved b))
  | inr behind ↦
      let out : nat_lt (b % v.agblocks) from ≡ false = le-ltb (b % v.agblocks) from behind in
      let late : nat_le from (b % v.agblocks) ≡ true = le-leb from (b % v.agblocks) behind in
      let same : use_at now b ≡ use_at uses b = marks.each b (omega (arith, low, shows.all)) ∙ ap (λ (t : Bool). if t then Claimed else use_at uses b) out in
      ap is_open (same ∙ shows.each b low) ∙ open_is v kept reserved b ∙ sym (ap (λ (t : Bool). is_pool v kept reserved b && t) late ∙ and_true (is_pool v kept reserved b))
]
  where
    and_false : (x : Bool) → (x && false) ≡ false
    and_false true = refl
    and_false false = refl

    and_true : (x : Bool) → (x && true) ≡ x
    and_true true = refl
    and_true false = refl

-- no block is spared where none is named
none_spared : (v : Volume) (b : ℕ) → 0 < v.agblocks → is_unspared v [] b ≡ true
none_spared v b some = lt-ltb (b % v.agblocks) v.agblocks (mod-lt b some)

-- rows of all open blocks
pub rows_open : (v : Volume) (groups : HasGroups v.dblocks v.agblocks v.agcount) (kept : List Run) (reserved : List ℕ) (from : ℕ) (uses : List Use) (free : ℕ → Type 0) → length uses ≡ v.dblocks
    → ((b : ℕ) → b < v.dblocks → in_pool uses b ≡ (is_pool v kept reserved b && nat_le from (b % v.agblocks))) → ((b : ℕ) → free b → in_pool uses b ≡ true) → ((b : ℕ) → in_pool uses b ≡ true → free b)
    → Opens v kept reserved from [] free
rows_open v groups kept reserved from uses free long each open' listed = record {
  inside = inside;
  passes = λ b here. ap₂ ◌&&◌ (ap₂ ◌&&◌ (parts b here).0 (none_spared v b (omega (arith, groups.large)))) (parts b here).1;
  all = λ b low here.
      let one = and_parts (is_pool v kept reserved b && is_unspared v [] b) (nat_le from (b % v.agblocks)) here in
      let two = and_parts (is_pool v kept reserved b) (is_unspared v [] b) one.0 in
      listed b (each b low ∙ ap₂ ◌&&◌ two.0 one.1);
}
  where
    inside : (b : ℕ) → free b → b < v.dblocks
    inside b here = omega (arith, open_inside uses b (open' b here), long)

    parts : (b : ℕ) → free b → (is_pool v kept reserved b ≡ true) × (nat_le from (b % v.agblocks) ≡ true)
    parts b here = and_parts (is_pool v kept reserved b) (nat_le from (b % v.agblocks)) (sym (each b (inside b here)) ∙ open' b here)

-- the parts of rows that are not spared
module _ (v : Volume) (groups : HasGroups v.dblocks v.agblocks v.agcount) (kept : List Run) (reserved : List ℕ) (from : ℕ) (spared starts : List ℕ) (count : ℕ → ℕ)
    (opens : Opens v kept reserved from [] (InRow starts count)) where
  -- the group of a block of a row, and its AG block
  in_group : (k b : ℕ) → k < length starts → get_or starts k 0 ≤ b → b < get_or starts k 0 + count k
      → (b / v.agblocks ≡ get_or starts k 0 / v.agblocks) × (b % v.agblocks ≡ get_or starts k 0 % v.agblocks + (b - get_or starts k 0))
  in_group k b inside low high =
      let s = get_or starts k 0 in
      let in' = stays_in v groups kept reserved from [] (InRow starts count) opens (count k) s (omega (arith, low, high)) (λ x from' to. (k, inside, from', to)) in
      let first : s < v.dblocks = omega (arith, in'.0, low, high) in
      let end = group_end v groups kept reserved from [] (InRow starts count) opens s first in
      let whole : s / v.agblocks * v.agblocks + s % v.agblocks ≡ s = div-add-mod' s v.agblocks in
      let at : b ≡ s / v.agblocks * v.agblocks + (s % v.agblocks + (b - s)) = omega (arith, whole, low) in
      let fits : s % v.agblocks + (b - s) < v.agblocks = omega (arith, in'.1, end.1, low, high) in (
        ap (λ (n : ℕ). n / v.agblocks) at ∙ div-mul-add (s / v.agblocks) v.agblocks (s % v.agblocks + (b - s)) fits,
        ap (λ (n : ℕ). n % v.agblocks) at ∙ mod-mul-add (s / v.agblocks) v.agblocks (s % v.agblocks + (b - s)) fits,
      )

  pub parts_open : (part : ℕ → ℕ) → ((k : ℕ) → k < length starts → part k ≡ unspared_part v spared (get_or starts k 0) (count k)) → Opens v kept reserved from spared (InRow starts part)
  parts_open part is = record {
    inside = λ b here. opens.inside b (of_row b here);
    passes = λ b here.
        let one = and_parts (is_pool v kept reserved b && is_unspared v [] b) (nat_le from (b % v.agblocks)) (opens.passes b (of_row b here)) in
        let two = and_parts (is_pool v kept reserved b) (is_unspared v [] b) one.0 in
        let row = of_row b here in
        let at = in_group here.0 b here.1 here.2 row.3 in
        let top = get_or spared (get_or starts here.0 0 / v.agblocks) v.agblocks in
        let same : get_or spared (b / v.agblocks) v.agblocks ≡ top = ap (λ (n : ℕ). get_or spared n v.agblocks) at.0 in
        let before : nat_lt (b % v.agblocks) (get_or spared (b / v.agblocks) v.agblocks) ≡ true =
        lt-ltb (b % v.agblocks) (get_or spared (b / v.agblocks) v.agblocks) (omega (arith, at.1, same, here.2, here.3, is here.0 here.1)) in
        ap₂ ◌&&◌ (ap₂ ◌&&◌ two.0 before) one.1;
    all = λ b low here.
        let one = and_parts (is_pool v kept reserved b && is_unspared v spared b) (nat_le from (b % v.agblocks)) here in
        let two = and_parts (is_pool v kept reserved b) (is_unspared v spared b) one.0 in
        let row = opens.all b low (ap₂ ◌&&◌ (ap₂ ◌&&◌ two.0 (none_spared v b (omega (arith, groups.large)))) one.1) in
        let at = in_group row.0 b row.1 row.2 row.3 in
        let top = get_or spared (get_or starts row.0 0 / v.agblocks) v.agblocks in
        let same : get_or spared (b / v.agblocks) v.agblocks ≡ top = ap (λ (n : ℕ). get_or spared n v.agblocks) at.0 in
        let before : b % v.agblocks < get_or spared (b / v.agblocks) v.agblocks = ltb-true (b % v.agblocks) (get_or spared (b / v.agblocks) v.agblocks) two.1 in
        (row.0, row.1, row.2, omega (arith, at.1, same, row.2, row.3, before, is row.0 row.1));
  }
    where
      of_row : (b : ℕ) → InRow starts part b → InRow starts count b
      of_row b here = (here.0, here.1, here.2, omega (arith, here.3, is here.0 here.1))

-- the rows of a list of uses, and the parts of them that are not spared
module _ (v : Volume) (groups : HasGroups v.dblocks v.agblocks v.agcount) (kept : List Run) (reserved : List ℕ) (from : ℕ) (spared : List ℕ) (uses : List Use) (starts counts parts : List ℕ)
    (g g' : Greatest) (long : length uses ≡ v.dblocks) (few : length uses < 2 ^ 32) (each : (b : ℕ) → b < v.dblocks → in_pool uses b ≡ (is_pool v kept reserved b && nat_le from (b % v.agblocks)))
    (rows : AreOpenRows uses starts counts) (long' : length parts ≡ length starts) (part : (k : ℕ) → k < length starts → get_or parts k 0 ≡ unspared_part v spared (get_or starts k 0) (get_or counts k 0))
    (holds : Holds counts g) (holds' : Holds parts g') where
  less : (k : ℕ) → k < length starts → get_or parts k 0 ≤ get_or counts k 0
  less k low = omega (arith, part k low)

  pub rows_counts : (all : Bool) → AreCounts starts (if all then g else g')
  rows_counts true = counts_listed starts counts g (length uses) rows.all holds rows.rows rows.small few
  rows_counts false =
      counts_listed starts parts g' (length uses) long' holds' (rows_under starts (λ k. get_or counts k 0) (λ k. get_or parts k 0) less rows.rows)
      (λ k low. omega (arith, rows.small k low, less k low)) few

  pub rows_less : (k : ℕ) → k < length starts → leaves_of g' k ≤ leaves_of g k
  rows_less k low =
      omega (arith, holds.each k (omega (arith, low, rows.all, holds.there)), holds'.each k (omega (arith, low, long', holds'.there)), less k low)

  whole : Opens v kept reserved from [] (InRow starts (leaves_of g))
  whole = rows_open v groups kept reserved from uses (InRow starts (leaves_of g)) long each
      (λ b here. rows.free b (row_same starts (leaves_of g) (λ k. get_or counts k 0) b (λ k low. holds.each k (omega (arith, low, rows.all, holds.there))) here))
      (λ b here. row_same starts (λ k. get_or counts k 0) (leaves_of g) b (λ k low. sym (holds.each k (omega (arith, low, rows.all, holds.there)))) (rows.listed b here))

  pub rows_opens : (all : Bool) → Opens v kept reserved from (spared_in all spared) (InRow starts (leaves_of (if all then g else g')))
  rows_opens true = whole
  rows_opens false = parts_open v groups kept reserved from spared starts (leaves_of g) whole (leaves_of g')
      (λ k low. holds'.each k (omega (arith, low, long', holds'.there)) ∙ part k low ∙ ap (unspared_part v spared (get_or starts k 0)) (sym (holds.each k (omega (arith, low, rows.all, holds.there)))))

-- a list of uses that is written back as a whole
pub written : {X : Type 0} (n : ℕ) (new rest : List X) → n ≡ length new → take n (new ++ rest) ≡ new
written n new rest long = take-append-le n new rest (omega (arith, long)) ∙ take_all n new (omega (arith, long))
