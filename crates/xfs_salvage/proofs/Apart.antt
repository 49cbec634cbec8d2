-- Runs that are put into a set one after the other have no block in common where none meets what was put in before.
use Rattle.std.proofs.Common.{◌≡◌, ◌↔◌, ℕ, Bool, true, false, ◌+◌, ◌≤◌, ◌<◌, inl, inr, IsTrue, ◌||◌, nat_le, List, [], ◌∷◌, length, drop, get_or, refl, subst, arith}
use Rattle.std.specs.List.{All, AllByRecursion, list_all}
use Rattle.std.proofs.lemmas.Bool.{and_from, both_ways, cases_lt, le-leb, lt-ltb, or_from, or_left, or_parts, or_right}
use Rattle.std.proofs.lemmas.List.Elements.{All-drop, recursion_from_All}
use Rattle.xfs_disk.specs.Lists.{is_in_range}
use Rattle.xfs_geom.specs.declared.records.Run.{Run}
use Rattle.xfs_collections.specs.Blocks.{is_in, meets}
use Rattle.xfs_collections.proofs.Meeting.{meets_none, unmet}
use Rattle.xfs_claims.specs.Spans.{SpansApart, IsRun, spans_apart, meets_any, span_pair, spans_of}
use Rattle.xfs_claims.proofs.Gathered.{Taking, no_run, spans_next, taking_next}
use Rattle.xfs_claims.proofs.Steady.{none_met}

-- what is left to be put in does not meet the set, and no two of it have a block in common
pub record AreLeft (set : ℕ → Bool) (left : List (ℕ × ℕ)) : Type 0 where
  pub off : meets_any set left ≡ false
  pub apart : SpansApart left

-- a run that has no block of another is apart from it
pub apart_by_blocks : (x y : ℕ × ℕ) → 1 ≤ x.1 → 1 ≤ y.1 → ((b : ℕ) → y.0 ≤ b → b < y.0 + y.1 → is_in_range x.0 x.1 b ≡ false) → spans_apart x y ≡ true
apart_by_blocks x y some other none =
    elim (cases_lt y.0 (x.0 + x.1)) [
      | inr behind ↦ or_left (nat_le (x.0 + x.1) y.0) (nat_le (y.0 + y.1) x.0) (le-leb (x.0 + x.1) y.0 behind)
      | inl over ↦ elim (cases_lt x.0 (y.0 + y.1)) [
        | inr before ↦ or_right (nat_le (x.0 + x.1) y.0) (nat_le (y.0 + y.1) x.0) (le-leb (y.0 + y.1) x.0 before)
        | inl under ↦ elim (cases_lt x.0 y.0) [
          | inl lower ↦ absurd (both_ways (is_in_range x.0 x.1 y.0) (none y.0 (omega arith) (omega (arith, other)))
              (and_from _ _ (le-leb x.0 y.0 (omega (arith, lower))) (lt-ltb y.0 (x.0 + x.1) over)))
          | inr upper ↦ absurd (both_ways (is_in_range x.0 x.1 x.0) (none x.0 upper under)
              (and_from _ _ (le-leb x.0 x.0 (omega arith)) (lt-ltb x.0 (x.0 + x.1) (omega (arith, some)))))
        ]
      ]
    ]

-- each of the runs has a block
abbrev pub AreSome : List (ℕ × ℕ) → Type 0
AreSome runs = AllByRecursion (λ (run : ℕ × ℕ). 1 ≤ run.1) runs

old_off : (old new : ℕ → Bool) (run other : ℕ × ℕ) → ((b : ℕ) → new b ≡ (is_in_range run.0 run.1 b || old b)) → meets new other.0 other.1 ≡ false
    → (meets old other.0 other.1 ≡ false) × ((b : ℕ) → other.0 ≤ b → b < other.0 + other.1 → is_in_range run.0 run.1 b ≡ false)
old_off old new run other more off = (
  meets_none old other.0 other.1 (λ b low high. (parts b low high).1),
  λ b low high. (parts b low high).0,
)
  where
    parts : (b : ℕ) → other.0 ≤ b → b < other.0 + other.1 → (is_in_range run.0 run.1 b ≡ false) × (old b ≡ false)
    parts b low high = or_parts (is_in_range run.0 run.1 b) (old b) (rw (← more b) (unmet new other.0 other.1 off b low high))

all_off : (old new : ℕ → Bool) (run : ℕ × ℕ) (rest : List (ℕ × ℕ)) → ((b : ℕ) → new b ≡ (is_in_range run.0 run.1 b || old b)) → 1 ≤ run.1 → AreSome rest
    → meets_any new rest ≡ false → (meets_any old rest ≡ false) × (list_all (spans_apart run) rest ≡ true)
all_off old new run [] more some others off = (refl, refl)
all_off old new run (other ∷ rest) more some others off =
    let parts = or_parts (meets new other.0 other.1) (meets_any new rest) off in
    let here = old_off old new run other more parts.0 in
    let behind = all_off old new run rest more some others.1 parts.1 in (
      or_from (meets old other.0 other.1) (meets_any old rest) here.0 behind.0,
      and_from (spans_apart run other) (list_all (spans_apart run) rest) (apart_by_blocks run other some others.0 here.1) behind.1,
    )

-- the next run is put in
pub left_next : (old new : ℕ → Bool) (run : ℕ × ℕ) (rest : List (ℕ × ℕ)) → ((b : ℕ) → new b ≡ (is_in_range run.0 run.1 b || old b)) → 1 ≤ run.1 → AreSome rest
    → meets old run.0 run.1 ≡ false → AreLeft new rest ↔ AreLeft old (run ∷ rest)
left_next old new run rest more some others off = (onward, back)
  where
    onward : AreLeft new rest → AreLeft old (run ∷ rest)
    onward left =
        let all = all_off old new run rest more some others left.off in
        record { off = or_from (meets old run.0 run.1) (meets_any old rest) off all.0; apart = (all.1, left.apart) }

    back : AreLeft old (run ∷ rest) → AreLeft new rest
    back left =
        let so : Taking old old (run ∷ rest) (run ∷ rest) = record { off = left.off; apart = left.apart; all = λ b. refl } in
        let next = taking_next old old new (run ∷ rest) (run ∷ rest) rest run refl so more in
        record { off = next.off; apart = next.apart }

-- nothing meets the empty set
pub left_first : (made : List (ℕ × ℕ)) (runs : List (ℕ × ℕ)) → made ≡ [] → AreLeft (is_in made) runs ↔ SpansApart runs
left_first made runs empty = (λ left. left.apart, λ apart. record { off = none_met made runs empty; apart = apart })

spans_some : (runs : List Run) → AllByRecursion IsRun runs → AreSome (spans_of runs)
spans_some [] are = tt
spans_some (r ∷ rs) are = (are.0.0, spans_some rs are.1)

-- the run at a place is put in
pub left_after : (old new : ℕ → Bool) (runs : List Run) (i : ℕ) → i < length runs → All IsRun runs → meets old (get_or runs i no_run).start (get_or runs i no_run).count ≡ false
    → ((b : ℕ) → new b ≡ (is_in_range (get_or runs i no_run).start (get_or runs i no_run).count b || old b))
    → (AreLeft old (spans_of (drop i runs)) ↔ SpansApart (spans_of runs)) → (AreLeft new (spans_of (drop (i + 1) runs)) ↔ SpansApart (spans_of runs))
left_after old new runs i inside are off more before =
    let run : ℕ × ℕ = span_pair (get_or runs i no_run) in
    let rest : List (ℕ × ℕ) = spans_of (drop (i + 1) runs) in
    let at : spans_of (drop i runs) ≡ run ∷ rest = spans_next runs i no_run inside in
    let next = left_next old new run rest more (are i no_run inside).0
    (spans_some (drop (i + 1) runs) (recursion_from_All IsRun (drop (i + 1) runs) (All-drop IsRun (i + 1) runs are))) off in
    let same : AreLeft old (run ∷ rest) ↔ SpansApart (spans_of runs) = subst (λ (left : List (ℕ × ℕ)). AreLeft old left ↔ SpansApart (spans_of runs)) at before in
    (λ left. same.0 (next.0 left), λ apart. next.1 (same.1 apart))

-- one run at most is apart
pub single_apart : (runs : List Run) → length runs ≤ 1 → SpansApart (spans_of runs)
single_apart [] few = tt
single_apart (r ∷ []) few = (refl, tt)
single_apart (r ∷ s ∷ rest) few = absurd (omega (arith, few))

-- the same, as it is told
pub single_told : (runs : List Run) → length runs ≤ 1 → IsTrue true ↔ SpansApart (spans_of runs)
single_told runs few = (λ yes. single_apart runs few, λ apart. refl)
