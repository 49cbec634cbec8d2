-- Records of the free space trees, which are their own keys (chapter "AG Free Space Management").
use Rattle.std.specs.Prelude.{ℕ, Bool, ◌^◌, ◌&&◌, nat_lt, List, [], ◌∷◌}
use Rattle.xfs_word.specs.Field.{field_of}
use Rattle.xfs_geom.specs.declared.records.Span.{Span}
use Rattle.xfs_kinds.specs.Spelled.{spelled}

-- the start and the count of a run, each in four bytes
abbrev pub span_at_bytes : List ℕ → Span
span_at_bytes bytes = record { start = field_of bytes 0 4; count = field_of bytes 4 4 }

unfoldable pub span_bytes : Span → List ℕ
span_bytes s = spelled ((4, s.start) ∷ (4, s.count) ∷ [])

abbrev pub fits_span : Span → Bool
fits_span s = nat_lt s.start (2 ^ 32) && nat_lt s.count (2 ^ 32)
