-- The blocks of claims, without their owners.
use Rattle.std.proofs.Common.{◌≡◌, ℕ, ◌+◌, ◌≤◌, ◌<◌, Bool, true, false, not, ◌&&◌, ◌||◌, if◌then◌else◌, nat_lt, ◌-◌, length, List, [], ◌∷◌, map, Option, Some, None, refl, sym, ◌∙◌, arith}
use Rattle.std.specs.Option.{is_some}
use Rattle.std.proofs.lemmas.Bool.{and_parts, lt-ltb, ltb-true, or_left, or_right, true≢false}
use Rattle.std.proofs.lemmas.Bool.Decides.{nat_tests}
use Rattle.xfs_disk.specs.Lists.{is_in_range}
use Rattle.xfs_geom.specs.declared.records.Span.{Span}
use Rattle.xfs_geom.specs.declared.records.Run.{Run}
use Rattle.xfs_kinds.specs.FreeRuns.{AreSeparate, SpansAscend, is_in_spans}
use Rattle.xfs_kinds.specs.MergedRuns.{AreRuns, held_at, offset_word_at}
use Rattle.xfs_place.specs.Claims.{span_of_run}

pub spans_ascend : (low : ℕ) (rs : List Run) → AreRuns low rs → SpansAscend low (map span_of_run rs)
spans_ascend low [] runs = tt
spans_ascend low (r ∷ rest) runs = (runs.0, spans_ascend (r.start + r.count) rest runs.2)

pub in_spans : (rs : List Run) (b : ℕ) → is_in_spans (map span_of_run rs) b ≡ is_some (held_at rs b)
in_spans [] b = refl
in_spans (r ∷ rest) b = by_case (is_in_range r.start r.count b) (in_spans rest b)
  where
    by_case : (t : Bool) → is_in_spans (map span_of_run rest) b ≡ is_some (held_at rest b) → (t || is_in_spans (map span_of_run rest) b) ≡ is_some (if t then Some (r.owner, offset_word_at r b) else held_at rest b)
    by_case true so = refl
    by_case false so = so

-- the free blocks are those that are not held
pub free_if : (free : Bool) (block top : ℕ) (held : Option (ℕ × ℕ)) → free ≡ (nat_lt block top && not (is_some held)) → block < top → held ≡ None → free ≡ true
free_if free block top held is low none =
    let e : nat_lt block top ≡ true = lt-ltb block top low in
    is ∙ rw (e, none) refl

pub free_only : (free : Bool) (block top : ℕ) (held : Option (ℕ × ℕ)) → free ≡ (nat_lt block top && not (is_some held)) → free ≡ true → (block < top) × (held ≡ None)
free_only free block top None is yes' = let parts = and_parts (nat_lt block top) true (sym is ∙ yes') in (ltb-true block top parts.0, refl)
free_only free block top (Some p) is yes' = let parts = and_parts (nat_lt block top) false (sym is ∙ yes') in absurd (true≢false (sym parts.1))

-- separate runs below a block are no more than it
pub separate_few : (low top : ℕ) (ss : List Span) → AreSeparate low ss → low ≤ top + 1 → ((b : ℕ) → is_in_spans ss b ≡ true → b < top) → length ss + low ≤ top + 1
separate_few low top [] apart h inside = omega (arith, h)
separate_few low top (s ∷ rest) apart h inside =
    let last : is_in_range s.start s.count (s.start + s.count - 1) ≡ true = grind (arith, nat_tests, apart.1) in
    let end : s.start + s.count - 1 < top = inside (s.start + s.count - 1) (or_left (is_in_range s.start s.count (s.start + s.count - 1)) (is_in_spans rest (s.start + s.count - 1)) last) in
    let so = separate_few (s.start + s.count + 1) top rest apart.2 (omega (arith, end, apart.1)) (λ b in'. inside b (or_right (is_in_range s.start s.count b) (is_in_spans rest b) in')) in
    omega (arith, so, apart.0, apart.1)
