-- Runs are read as they were written.
use Rattle.std.proofs.Common.{◌≡◌, ℕ, ◌^◌, ◌<◌, nat_lt, IsTrue, List, [], ◌∷◌, length, refl, ◌∙◌, ap}
use Rattle.std.proofs.lemmas.Bool.{and_parts, ltb-true}
use Rattle.xfs_geom.specs.declared.records.Span.{Span}
use Rattle.xfs_word.specs.Field.{field_of}
use Rattle.xfs_word.proofs.Register.{AreBytes}
use Rattle.xfs_kinds.specs.SpelledLaws.{length-spelled, spelled_again, spelled_from}
use Rattle.xfs_kinds.specs.Spans.{span_at_bytes, span_bytes, fits_span}

-- runs with the same numbers are the same
same_span : (s : Span) (start count : ℕ) → start ≡ s.start → count ≡ s.count → record { start = start; count = count } ≡ s
same_span s start count a b =
    let at_start = λ (x : ℕ). let r : Span = record { start = x; count = count } in r in
    let at_count = λ (x : ℕ). let r : Span = record { start = s.start; count = x } in r in
    ap at_start a ∙ ap at_count b

pub span_len : (s : Span) → length (span_bytes s) ≡ 8
unfolding span_bytes
span_len s = length-spelled ((4, s.start) ∷ (4, s.count) ∷ [])

pub span_again : (s : Span) → IsTrue (fits_span s) → span_at_bytes (span_bytes s) ≡ s
unfolding span_bytes
span_again s fits =
    let parts = and_parts (nat_lt s.start (2 ^ 32)) (nat_lt s.count (2 ^ 32)) fits in
    let start : s.start < 256 ^ 4 = ltb-true s.start (2 ^ 32) parts.0 in
    let count : s.count < 256 ^ 4 = ltb-true s.count (2 ^ 32) parts.1 in
    let read = spelled_again ((4, s.start) ∷ (4, s.count) ∷ []) (span_bytes s) 0 (start, (count, tt)) refl in
    same_span s (field_of (span_bytes s) 0 4) (field_of (span_bytes s) 4 4) read.0 read.1.0

-- bytes in which the numbers of a run stand are its bytes
pub span_put : (s : Span) (bytes : List ℕ) → AreBytes bytes → length bytes ≡ 8 → field_of bytes 0 4 ≡ s.start → field_of bytes 4 4 ≡ s.count → bytes ≡ span_bytes s
unfolding span_bytes
span_put s bytes all long start count = spelled_from ((4, s.start) ∷ (4, s.count) ∷ []) bytes 0 all long (start, (count, tt))
