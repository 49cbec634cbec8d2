-- Free runs by their lengths.
use Rattle.std.proofs.Common.{◌≡◌, ◌≢◌, ℕ, zero, suc, ◌+◌, ◌≤◌, ◌<◌, inl, inr, Bool, true, false, ◌&&◌, ◌==◌, nat_lt, cond, List, [], ◌∷◌, length, get_or, Some, refl, sym, ◌∙◌, ap, arith}
use Rattle.std.specs.List.{sum_by}
use Rattle.std.specs.List.Sorted.{IsPermutation, IsSortedBy}
use Rattle.std.specs.Ordering.{is_lt, nat_cmp, ordering_then}
use Rattle.std.specs.declared.cmp.Ordering.TheVariants.{Less, Equal, Greater}
use Rattle.std.proofs.lemmas.Bool.{cases_eq, and_from, or_right, or_left, eq-eqb, ne_eqb, lt-ltb, ltb-false}
use Rattle.std.proofs.lemmas.List.Sums.{sum_by-cons}
use Rattle.std.proofs.lemmas.List.Sorted.{sum_by-IsPermutation}
use Rattle.xfs_geom.specs.declared.records.Span.{Span}
use Rattle.xfs_kinds.specs.FreeRuns.{AreSeparate}
use Rattle.xfs_kinds.specs.FreeTrees.{ranks_behind}
use Rattle.xfs_place.specs.Choice.{one_if}
use Rattle.xfs_place.specs.Placing.{AreByLength}

-- how many of the runs begin at a block
abbrev begin_at : ℕ → List Span → ℕ
begin_at b runs = sum_by (λ (s : Span). one_if (s.start == b)) runs

begin_first : (b : ℕ) (s : Span) (rest : List Span) → begin_at b (s ∷ rest) ≡ one_if (s.start == b) + begin_at b rest
begin_first b s rest = sum_by-cons (λ (t : Span). one_if (t.start == b)) s rest

one_small : (t : Bool) → one_if t ≤ 1
one_small true = omega arith
one_small false = omega arith

-- of runs that are separate, one begins at a block at most, and none before the first
begin_once : (low b : ℕ) (runs : List Span) → AreSeparate low runs → (begin_at b runs ≤ 1) × (b < low → begin_at b runs ≡ 0)
begin_once low b [] apart = (omega arith, λ h. refl)
begin_once low b (s ∷ rest) apart =
    let so = begin_once (s.start + s.count + 1) b rest apart.2 in
    let sums = begin_first b s rest in
    elim (cases_eq s.start b) [
      | inl here ↦
          let none = so.1 (omega (arith, here)) in
          (omega (arith, sums, none, one_small (s.start == b)), λ h. absurd (omega (arith, h, here, apart.0)))
      | inr other ↦
          let no : one_if (s.start == b) ≡ 0 = ap one_if (ne_eqb s.start b other) in (
            omega (arith, sums, no, so.0),
            λ h. omega (arith, sums, no, so.1 (omega (arith, h, apart.0))),
          )
    ]

begins_some : (b : ℕ) (runs : List Span) (k : ℕ) (d : Span) → k < length runs → (get_or runs k d).start ≡ b → 1 ≤ begin_at b runs
begins_some b [] k d in' at = absurd (omega (arith, in'))
begins_some b (s ∷ rest) zero d in' at =
    let one : one_if (s.start == b) ≡ 1 = ap one_if (eq-eqb s.start b at) in
    omega (arith, begin_first b s rest, one)
begins_some b (s ∷ rest) (suc k) d in' at = omega (arith, begin_first b s rest, begins_some b rest k d (omega (arith, in')) at)

begins_twice : (b : ℕ) (runs : List Span) (k : ℕ) (d : Span) → suc k < length runs → (get_or runs k d).start ≡ b → (get_or runs (suc k) d).start ≡ b → 2 ≤ begin_at b runs
begins_twice b [] k d in' at next = absurd (omega (arith, in'))
begins_twice b (s ∷ rest) zero d in' at next =
    let one : one_if (s.start == b) ≡ 1 = ap one_if (eq-eqb s.start b at) in
    omega (arith, begin_first b s rest, one, begins_some b rest 0 d (omega (arith, in')) next)
begins_twice b (s ∷ rest) (suc k) d in' at next = omega (arith, begin_first b s rest, begins_twice b rest k d (omega (arith, in')) at next)

-- what is not below another by length and start
not_below : (a e f h : Bool) → is_lt (ordering_then (cond a Less (cond e Equal Greater)) (cond f Less (cond h Equal Greater))) ≡ false → (a ≡ false) × (e ≡ true → f ≡ false)
not_below true e f h is = absurd (cc)
not_below false true true h is = absurd (cc)
not_below false true false h is = (refl, λ _. refl)
not_below false false f h is = (refl, λ e. absurd (cc))

behind : (x y : Span) → is_lt (ordering_then (nat_cmp y.count x.count) (nat_cmp y.start x.start)) ≡ false → x.start ≢ y.start → ranks_behind (Some x) y ≡ true
behind x y is other =
    let parts = not_below (nat_lt y.count x.count) (y.count == x.count) (nat_lt y.start x.start) (y.start == x.start) is in
    elim (cases_eq y.count x.count) [
      | inl same ↦
          let after = ltb-false y.start x.start (parts.1 (eq-eqb y.count x.count same)) in
          let late : nat_lt x.start y.start ≡ true = lt-ltb x.start y.start (omega (arith, after, other)) in
          let equal : (x.count == y.count) ≡ true = eq-eqb x.count y.count (sym same) in
          or_right (nat_lt x.count y.count) (x.count == y.count && nat_lt x.start y.start) (and_from (x.count == y.count) (nat_lt x.start y.start) equal late)
      | inr differ ↦
          let more = ltb-false y.count x.count parts.0 in
          or_left (nat_lt x.count y.count) (x.count == y.count && nat_lt x.start y.start) (lt-ltb x.count y.count (omega (arith, more, differ)))
    ]

pub by_length_is : (runs sorted : List Span) → AreSeparate 0 runs → IsPermutation runs sorted
    → IsSortedBy (λ (a b : Span). is_lt (ordering_then (nat_cmp a.count b.count) (nat_cmp a.start b.start))) sorted → AreByLength runs sorted
by_length_is runs sorted apart moved up = record {
  same = moved;
  order = λ k d in'.
      let e : k + 1 ≡ suc k = omega arith in
      let x = get_or sorted k d in
      let y = get_or sorted (k + 1) d in
      let many : begin_at x.start sorted ≡ begin_at x.start runs = sum_by-IsPermutation (λ (t : Span). one_if (t.start == x.start)) runs sorted moved in
      let once = (begin_once 0 x.start runs apart).0 in
      behind x y (up k d (omega arith) in') (λ h.
      let next : (get_or sorted (suc k) d).start ≡ x.start = ap (λ (j : ℕ). (get_or sorted j d).start) (sym e) ∙ sym h in
      omega (arith, many, once, begins_twice x.start sorted k d (omega (arith, in')) refl next));
}
