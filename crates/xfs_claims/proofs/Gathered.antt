-- Runs that are put into a set of blocks, one after the other.
use Rattle.std.proofs.Common.{◌≡◌, ℕ, Bool, true, false, ◌+◌, ◌≤◌, ◌<◌, inl, inr, ◌||◌, nat_le, List, [], ◌∷◌, length, drop, get_or, refl, ◌∙◌, ap, subst, arith, add-one, drop-cons}
use Rattle.std.specs.List.{list_all}
use Rattle.std.proofs.lemmas.Bool.{or_parts, or_from, or_cases, and_parts}
use Rattle.std.proofs.lemmas.Bool.Decides.{nat_tests}
use Rattle.xfs_disk.specs.Lists.{is_in_range}
use Rattle.xfs_geom.specs.declared.records.Run.{Run}
use Rattle.xfs_collections.specs.Blocks.{is_in, meets}
use Rattle.xfs_collections.proofs.Meeting.{meets_none, unmet}
use Rattle.xfs_claims.specs.Spans.{span_pair, spans_of, spans_apart, SpansApart, meets_any, with_blocks}

abbrev pub no_run : Run
no_run = record { start = 0; count = 0; owner = 0; offset_word = 0 }

-- what is left from a place on begins with the run there
pub spans_next : (runs : List Run) (i : ℕ) (d : Run) → i < length runs → spans_of (drop i runs) ≡ span_pair (get_or runs i d) ∷ spans_of (drop (i + 1) runs)
spans_next runs i d h = rw (add-one, drop-cons runs i d h) refl

-- a run that is apart from another has no block of it
apart_block : (x y : ℕ × ℕ) (b : ℕ) → spans_apart x y ≡ true → y.0 ≤ b → b < y.0 + y.1 → is_in_range x.0 x.1 b ≡ false
apart_block x y b apart low high =
    elim (or_cases (nat_le (x.0 + x.1) y.0) (nat_le (y.0 + y.1) x.0) apart) [
      | inl e ↦ grind (arith, nat_tests, e, low, high)
      | inr e ↦ grind (arith, nat_tests, e, low, high)
    ]

-- the set with a run does not meet another, where that is apart from the run and did not meet the set
still_off : (old new : ℕ → Bool) (run other : ℕ × ℕ) → ((b : ℕ) → new b ≡ (is_in_range run.0 run.1 b || old b)) → spans_apart run other ≡ true
    → meets old other.0 other.1 ≡ false → meets new other.0 other.1 ≡ false
still_off old new run other more apart off =
    meets_none new other.0 other.1 (λ b low high.
    more b ∙ or_from (is_in_range run.0 run.1 b) (old b) (apart_block run other b apart low high) (unmet old other.0 other.1 off b low high))

all_off : (old new : ℕ → Bool) (run : ℕ × ℕ) (rest : List (ℕ × ℕ)) → ((b : ℕ) → new b ≡ (is_in_range run.0 run.1 b || old b)) → list_all (spans_apart run) rest ≡ true
    → meets_any old rest ≡ false → meets_any new rest ≡ false
all_off old new run [] more apart off = refl
all_off old new run (other ∷ rest) more apart off =
    let here = and_parts (spans_apart run other) (list_all (spans_apart run) rest) apart in
    let parts = or_parts (meets old other.0 other.1) (meets_any old rest) off in
    or_from (meets new other.0 other.1) (meets_any new rest) (still_off old new run other more here.0 parts.0) (all_off old new run rest more here.1 parts.1)

-- some runs were put into the set, and these are left
pub record Taking (old now : ℕ → Bool) (runs left : List (ℕ × ℕ)) : Type 0 where
  pub off : meets_any now left ≡ false
  pub apart : SpansApart left
  pub all : (b : ℕ) → with_blocks now left b ≡ with_blocks old runs b

or_turned : (x y z : Bool) → (y || (x || z)) ≡ ((x || y) || z)
or_turned true true z = refl
or_turned true false z = refl
or_turned false true z = refl
or_turned false false z = refl

-- the next run does not meet the set
pub next_off : (old now : ℕ → Bool) (runs left rest : List (ℕ × ℕ)) (run : ℕ × ℕ) → left ≡ run ∷ rest → Taking old now runs left → meets now run.0 run.1 ≡ false
next_off old now runs left rest run is so =
    let off : meets_any now (run ∷ rest) ≡ false = subst (λ (x : List (ℕ × ℕ)). meets_any now x ≡ false) is so.off in
    (or_parts (meets now run.0 run.1) (meets_any now rest) off).0

-- and then the others are left
pub taking_next : (old now new : ℕ → Bool) (runs left rest : List (ℕ × ℕ)) (run : ℕ × ℕ) → left ≡ run ∷ rest → Taking old now runs left
    → ((b : ℕ) → new b ≡ (is_in_range run.0 run.1 b || now b)) → Taking old new runs rest
taking_next old now new runs left rest run is so more =
    let here : Taking old now runs (run ∷ rest) = subst (λ (x : List (ℕ × ℕ)). Taking old now runs x) is so in
    record {
      off = all_off now new run rest more here.apart.0 (or_parts (meets now run.0 run.1) (meets_any now rest) here.off).1;
      apart = here.apart.1;
      all = λ b.
          let all = here.all b in
          rw (more b) (or_turned (is_in_range run.0 run.1 b) (is_in rest b) (now b) ∙ all);
    }

-- the set after all of them
pub taken_all : (old now : ℕ → Bool) (runs : List (ℕ × ℕ)) → Taking old now runs [] → now ≡ with_blocks old runs
taken_all old now runs so = λ k b. so.all b k

-- one of the runs left meets the set where the next one does, or one behind it
pub meets_next : (set : ℕ → Bool) (runs : List Run) (i : ℕ) (d : Run) → i < length runs
    → meets_any set (spans_of (drop i runs)) ≡ (meets set (get_or runs i d).start (get_or runs i d).count || meets_any set (spans_of (drop (i + 1) runs)))
meets_next set runs i d h = ap (meets_any set) (spans_next runs i d h)
