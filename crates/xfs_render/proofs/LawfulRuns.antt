-- Free runs of a group that are separate are lawful, by their starts and by their lengths.
use Rattle.std.proofs.Common.{◌≡◌, ◌≢◌, ℕ, zero, suc, ◌+◌, ◌-◌, ◌^◌, ◌<◌, ◌≤◌, inl, inr, Bool, true, false, ◌&&◌, nat_le, nat_lt, List, [], ◌∷◌, length, get_or, Option, Some, None, refl, sym, ap, ◌∙◌, subst, arith}
use Rattle.std.specs.Prelude.{IsTrue}
use Rattle.std.specs.List.{All, AllAdjacentBelow}
use Rattle.std.specs.List.Sorted.{IsPermutation}
use Rattle.std.proofs.lemmas.Bool.{and_from, cases_lt, le-leb, lt-ltb, or_left, true≢false}
use Rattle.std.proofs.lemmas.Bool.Decides.{nat_tests}
use Rattle.std.proofs.lemmas.List.Elements.{All-cons, All-head, All-nil, All-tail}
use Rattle.std.proofs.lemmas.List.Sorted.{All-permutation, length_permutation}
use Rattle.xfs_disk.specs.Lists.{is_in_range}
use Rattle.xfs_geom.specs.Conversions.{group_length}
use Rattle.xfs_geom.specs.Volumes.{Volume}
use Rattle.xfs_geom.specs.declared.records.Span.{Span}
use Rattle.xfs_kinds.specs.FreeRuns.{AreSeparate, is_in_spans}
use Rattle.xfs_kinds.specs.FreeTrees.{begins_behind, bno_shape, cnt_shape, is_free_run, ranks_behind}
use Rattle.xfs_tree.specs.Rules.{are_lawful}
use Rattle.xfs_place.proofs.Counted.{ends, in_behind}
use Rattle.xfs_place.specs.Placing.{AreByLength}

module _ (v : Volume) (ag : ℕ) (there : ag < v.agcount) (small : group_length v ag < 2 ^ 32) where
  free_run : (s : Span) → 1 ≤ s.start → 1 ≤ s.count → s.start + s.count ≤ group_length v ag → is_free_run v ag s ≡ true
  free_run s behind some inside =
      and_from _ _
      (and_from _ _ (and_from _ _ (and_from _ _ (lt-ltb s.start (2 ^ 32) (omega (arith, inside, small))) (lt-ltb s.count (2 ^ 32) (omega (arith, inside, small)))) (le-leb 1 s.count some)) (le-leb 1 s.start behind))
      (and_from _ _ (lt-ltb ag v.agcount there) (le-leb (s.start + s.count) (group_length v ag) inside))

  -- the runs from a block on
  abbrev IsBelow : ℕ → Option Span → Type 0
  IsBelow low None = Unit {0}
  IsBelow low (Some b) = b.start + b.count < low

  follows : (low : ℕ) (before : Option Span) (s : Span) → IsBelow low before → low ≤ s.start → begins_behind before s ≡ true
  follows low None s below from = refl
  follows low (Some b) s below from = lt-ltb (b.start + b.count) s.start (omega (arith, below, from))

  by_start : (low : ℕ) (before : Option Span) (rs : List Span) → 1 ≤ low → IsBelow low before → AreSeparate low rs
      → ((b : ℕ) → group_length v ag ≤ b → is_in_spans rs b ≡ false) → IsTrue (are_lawful (bno_shape ag) v before rs)
  by_start low before [] some below apart far = refl
  by_start low before (s ∷ rest) some below apart far =
      let end = ends s rest low (group_length v ag) apart far in
      let own = free_run s (omega (arith, some, apart.0)) apart.1 end in
      let behind : s.start + s.count < s.start + s.count + 1 = omega arith in
      let so = by_start (s.start + s.count + 1) (Some s) rest (omega arith) behind apart.2 (λ b past. sym (in_behind s rest b (omega (arith, end, past))) ∙ far b past) in
      and_from _ _ (and_from _ _ own (follows low before s below apart.0)) so

  each_run : (low : ℕ) (rs : List Span) → 1 ≤ low → AreSeparate low rs → ((b : ℕ) → group_length v ag ≤ b → is_in_spans rs b ≡ false)
      → All (λ s. is_free_run v ag s ≡ true) rs
  each_run low [] some apart far = All-nil (λ s. is_free_run v ag s ≡ true)
  each_run low (s ∷ rest) some apart far =
      let end = ends s rest low (group_length v ag) apart far in
      All-cons (λ t. is_free_run v ag t ≡ true) s rest (free_run s (omega (arith, some, apart.0)) apart.1 end)
      (each_run (s.start + s.count + 1) rest (omega arith) apart.2 (λ b past. sym (in_behind s rest b (omega (arith, end, past))) ∙ far b past))

  -- no run has the first block of the group
  behind_first : (rs : List Span) → AreSeparate 0 rs → is_in_spans rs 0 ≡ false → AreSeparate 1 rs
  behind_first [] apart none = tt
  behind_first (s ∷ rest) apart none = (
    elim (cases_lt 0 s.start) [
      | inl later ↦ omega (arith, later)
      | inr first ↦
          let has : is_in_range s.start s.count 0 ≡ true = grind (arith, nat_tests, first, apart.1) in
          absurd (true≢false (sym (or_left (is_in_range s.start s.count 0) (is_in_spans rest 0) has) ∙ none))
    ],
    apart.1,
    apart.2,
  )

  pub runs_lawful : (rs : List Span) → AreSeparate 0 rs → is_in_spans rs 0 ≡ false → ((b : ℕ) → group_length v ag ≤ b → is_in_spans rs b ≡ false)
      → IsTrue (are_lawful (bno_shape ag) v None rs)
  runs_lawful rs apart none far = by_start 1 None rs (omega arith) tt (behind_first rs apart none) far

  by_length : (before : Option Span) (rs : List Span) → ((s : Span) (rest : List Span) → rs ≡ s ∷ rest → ranks_behind before s ≡ true)
      → All (λ s. is_free_run v ag s ≡ true) rs → AllAdjacentBelow (λ x y. ranks_behind (Some x) y ≡ true) rs (length rs) → IsTrue (are_lawful (cnt_shape ag) v before rs)
  by_length before [] first each up = refl
  by_length before (s ∷ rest) first each up =
      let next = λ (t : Span) (more : List Span) (e : rest ≡ t ∷ more).
      let long : 1 < length (s ∷ rest) = omega (arith, ap length e) in
      subst (λ (x : Span). ranks_behind (Some s) x ≡ true) (ap (λ (xs : List Span). get_or xs 0 t) e) (up 0 t long) in
      let tail = λ (k : ℕ) (d : Span) (low : k + 1 < length rest).
      let e : suc k + 1 ≡ suc (k + 1) = omega arith in
      subst (λ (j : ℕ). ranks_behind (Some (get_or rest k d)) (get_or (s ∷ rest) j d) ≡ true) e (up (suc k) d (omega (arith, low))) in
      let so = by_length (Some s) rest next (All-tail (λ t. is_free_run v ag t ≡ true) s rest each) tail in
      and_from _ _ (and_from _ _ (All-head (λ t. is_free_run v ag t ≡ true) s rest each) (first s rest refl)) so

  pub lengths_lawful : (rs sorted : List Span) → AreSeparate 0 rs → is_in_spans rs 0 ≡ false → ((b : ℕ) → group_length v ag ≤ b → is_in_spans rs b ≡ false)
      → AreByLength rs sorted → IsTrue (are_lawful (cnt_shape ag) v None sorted)
  lengths_lawful rs sorted apart none far by =
      by_length None sorted (λ s rest e. refl)
      (All-permutation (λ s. is_free_run v ag s ≡ true) rs sorted by.same (each_run 1 rs (omega arith) (behind_first rs apart none) far))
      by.order

pub as_many : (rs sorted : List Span) → AreByLength rs sorted → length sorted ≡ length rs
as_many rs sorted by = length_permutation rs sorted by.same
