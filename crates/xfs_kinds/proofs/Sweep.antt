-- The free runs, found between the runs that are used.
use Rattle.std.proofs.Common.{◌≡◌, ℕ, Bool, true, false, not, min, ◌+◌, ◌-◌, ◌≤◌, ◌<◌, inl, inr, ◌&&◌, ◌==◌, if◌then◌else◌, nat_lt, List, [], ◌∷◌, ◌++◌, refl, sym, ◌∙◌, ap, arith}
use Rattle.std.proofs.lemmas.Bool.{cases_lt, eqb-true, eqb-false}
use Rattle.std.proofs.lemmas.Bool.Decides.{nat_tests}
use Rattle.std.proofs.lemmas.List.{append-nil}
use Rattle.xfs_disk.specs.Lists.{is_in_range}
use Rattle.xfs_geom.specs.declared.records.Span.{Span}
use Rattle.xfs_kinds.specs.FreeRuns.{span, is_in_spans, is_outside_spans, SpansAscend, AreSeparate, runs_where, free_of, gap}
use Rattle.xfs_kinds.proofs.Blocks.{runs_of-gap, runs_of-run, runs_of-same, in_runs, runs_separate}

-- the gaps from at on, before, between and behind the runs, up to a length
abbrev pub sweep : ℕ → ℕ → List Span → List Span
sweep at length [] = gap at length
sweep at length (s ∷ rest) = if s.count == 0 then sweep at length rest else (gap at (min s.start length) ++ sweep (s.start + s.count) length rest)

-- no run has a block before the first of them
free_before : (ss : List Span) (low b : ℕ) → SpansAscend low ss → b < low → is_outside_spans ss b ≡ true
free_before [] low b up h = refl
free_before (s ∷ rest) low b up h =
    let here : is_in_range s.start s.count b ≡ false = grind (arith, nat_tests, up.0, h) in
    let before : b < s.start + s.count = omega (arith, up.0, h) in
    let others = free_before rest (s.start + s.count) b up.1 before in
    rw here others

-- all blocks of a gap are free
gap_is : (test : ℕ → Bool) (at end n : ℕ) → n ≡ end - at → ((c : ℕ) → at ≤ c → c < end → test c ≡ true) → gap at end ≡ runs_where test at n
gap_is test at end n size free =
    elim (cases_lt at end) [
      | inl h ↦
          let some : nat_lt at end ≡ true = grind (arith, nat_tests, h) in
          let many : n ≡ (end - at) + 0 = omega (arith, size) in
          let stop : end ≡ at + (end - at) = omega (arith, h) in
          rw some (sym (runs_of-run test at (end - at) 0 n end (omega (arith, h)) many stop free (inl refl)))
      | inr h ↦
          let none : nat_lt at end ≡ false = grind (arith, nat_tests, h) in
          let zero_many : n ≡ 0 = omega (arith, size, h) in
          rw (none, zero_many) refl
    ]

ascend_before : (low high : ℕ) (ss : List Span) → low ≤ high → SpansAscend high ss → SpansAscend low ss
ascend_before low high [] h up = tt
ascend_before low high (s ∷ rest) h up = (omega (arith, h, up.0), up.1)

-- behind a run, the blocks are free that the others leave free
free_behind : (s : Span) (rest : List Span) (b : ℕ) → s.start + s.count ≤ b → is_outside_spans (s ∷ rest) b ≡ is_outside_spans rest b
free_behind s rest b h = let past : is_in_range s.start s.count b ≡ false = grind (arith, nat_tests, h) in rw past refl

-- in a run no block is free
free_inside : (s : Span) (rest : List Span) (b : ℕ) → s.start ≤ b → b < s.start + s.count → is_outside_spans (s ∷ rest) b ≡ false
free_inside s rest b low high = let there : is_in_range s.start s.count b ≡ true = grind (arith, nat_tests, low, high) in rw there refl

-- a run of no blocks has none
no_block : (s : Span) (rest : List Span) (b : ℕ) → s.count ≡ 0 → is_outside_spans rest b ≡ is_outside_spans (s ∷ rest) b
no_block s rest b h = let none : is_in_range s.start s.count b ≡ false = grind (arith, nat_tests, h) in rw none refl

-- before a run and those behind it, all blocks are free
free_ahead : (s : Span) (rest : List Span) (b : ℕ) → SpansAscend (s.start + s.count) rest → b < s.start → is_outside_spans (s ∷ rest) b ≡ true
free_ahead s rest b up h = free_before (s ∷ rest) s.start b (omega arith, up) h

-- a run is passed over
run_passed : (length : ℕ) (s : Span) (rest : List Span) → 0 < s.count → s.start < length → SpansAscend (s.start + s.count) rest
    → runs_where (is_outside_spans (s ∷ rest)) s.start (length - s.start) ≡ runs_where (is_outside_spans rest) (s.start + s.count) (length - (s.start + s.count))
run_passed length s rest some inside up =
    let end = s.start + s.count in
    let p = is_outside_spans (s ∷ rest) in
    elim (cases_lt length end) [
      | inl past ↦
          let m = length - s.start in
          let many : m ≡ m + 0 = omega arith in
          let stop : length ≡ s.start + m = omega (arith, inside) in
          let none : length - end ≡ 0 = omega (arith, past) in
          let all = runs_of-gap p s.start m 0 m length many stop (λ c low high. free_inside s rest c low (omega (arith, high, past))) in
          rw none all
      | inr before ↦
          let n = length - end in
          let many : length - s.start ≡ s.count + n = omega (arith, inside, before) in
          runs_of-gap p s.start s.count n (length - s.start) end many refl (λ c low high. free_inside s rest c low high)
          ∙ runs_of-same p (is_outside_spans rest) end n (λ c low. free_behind s rest c low)
    ]

-- a gap, a run and what is behind it, where the run begins below the length
gap_and_run : (at length : ℕ) (s : Span) (rest : List Span) → at ≤ s.start → 0 < s.count → s.start < length → SpansAscend (s.start + s.count) rest
    → runs_where (is_outside_spans (s ∷ rest)) at (length - at) ≡ gap at s.start ++ runs_where (is_outside_spans rest) (s.start + s.count) (length - (s.start + s.count))
gap_and_run at length s rest low some inside up =
    let behind = run_passed length s rest some inside up in
    elim (cases_lt at s.start) [
      | inl before ↦
          let room : nat_lt at s.start ≡ true = grind (arith, nat_tests, before) in
          let pos : 0 < s.start - at = omega (arith, before) in
          let many : length - at ≡ (s.start - at) + (length - s.start) = omega (arith, before, inside) in
          let stop : s.start ≡ at + (s.start - at) = omega (arith, before) in
          let used : is_outside_spans (s ∷ rest) s.start ≡ false = free_inside s rest s.start (omega arith) (omega (arith, some)) in
          let run =
          runs_of-run (is_outside_spans (s ∷ rest)) at (s.start - at) (length - s.start) (length - at) s.start pos many stop
          (λ c l high. free_ahead s rest c up high) (inr used) in
          rw room (run ∙ ap (λ (xs : List Span). span at (s.start - at) ∷ xs) behind)
      | inr not_before ↦
          let room : nat_lt at s.start ≡ false = grind (arith, nat_tests, not_before) in
          let same : at ≡ s.start = omega (arith, low, not_before) in
          rw (room, same) behind
    ]

-- the gaps are the maximal runs of free blocks
pub sweep_is : (ss : List Span) (at length : ℕ) → SpansAscend at ss → sweep at length ss ≡ runs_where (is_outside_spans ss) at (length - at)
sweep_is [] at length up = gap_is (is_outside_spans []) at length (length - at) refl (λ c low high. refl)
sweep_is (s ∷ rest) at length up =
    by_case (s.count == 0) refl (sweep_is rest at length) (sweep_is rest (s.start + s.count) length up.1)
  where
    by_case : (t : Bool) → (s.count == 0) ≡ t → (SpansAscend at rest → sweep at length rest ≡ runs_where (is_outside_spans rest) at (length - at))
        → sweep (s.start + s.count) length rest ≡ runs_where (is_outside_spans rest) (s.start + s.count) (length - (s.start + s.count))
        → (if t then sweep at length rest else (gap at (min s.start length) ++ sweep (s.start + s.count) length rest)) ≡ runs_where (is_outside_spans (s ∷ rest)) at (length - at)
    by_case true none same more =
        let no_blocks = eqb-true s.count 0 none in
        let from : SpansAscend at rest = ascend_before at (s.start + s.count) rest (omega (arith, up.0)) up.1 in
        same from ∙ runs_of-same (is_outside_spans rest) (is_outside_spans (s ∷ rest)) at (length - at) (λ c low. no_block s rest c no_blocks)
    by_case false some same more =
        let blocks = eqb-false s.count 0 some in
        let pos : 0 < s.count = omega (arith, blocks) in
        elim (cases_lt s.start length) [
          | inl inside ↦
              let end : min s.start length ≡ s.start = omega (arith, inside) in
              rw (end, more) (sym (gap_and_run at length s rest up.0 pos inside up.1))
          | inr outside ↦
              let end : min s.start length ≡ length = omega (arith, outside) in
              let none : length - (s.start + s.count) ≡ 0 = omega (arith, outside) in
              let all = gap_is (is_outside_spans (s ∷ rest)) at length (length - at) refl (λ c low high. free_ahead s rest c up.1 (omega (arith, high, outside))) in
              rw (end, more, none) (append-nil (gap at length) ∙ all)
        ]

-- the gaps from the first block on are the free runs
pub swept_free : (used : List Span) (length : ℕ) → SpansAscend 0 used → sweep 0 length used ≡ free_of used length
unfolding free_of
swept_free used length up =
    let all : length - 0 ≡ length = omega arith in
    sweep_is used 0 length up ∙ ap (runs_where (is_outside_spans used) 0) all

-- the blocks of the free runs
pub free_blocks : (used : List Span) (length b : ℕ) → is_in_spans (free_of used length) b ≡ (nat_lt b length && not (is_in_spans used b))
unfolding free_of
free_blocks used length b =
    let below : is_in_range 0 length b ≡ nat_lt b length = grind (arith, nat_tests) in
    in_runs (is_outside_spans used) 0 length b ∙ ap (λ (t : Bool). t && not (is_in_spans used b)) below

pub free_separate : (used : List Span) (length : ℕ) → AreSeparate 0 (free_of used length)
unfolding free_of
free_separate used length = runs_separate (is_outside_spans used) 0 length
