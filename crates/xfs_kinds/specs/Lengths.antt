-- Free runs by length, as the tree by length has them (chapter "AG Free Space Management").
use Rattle.std.specs.Prelude.{Bool, ◌==◌, ◌&&◌, ◌||◌, if◌then◌else◌, nat_lt, List, [], ◌∷◌}
use Rattle.std.specs.Ordering.{is_lt, nat_cmp, ordering_then}
use Rattle.xfs_geom.specs.declared.records.Span.{Span}

-- a run comes before another by length: it is shorter, or as long and begins before
abbrev pub is_shorter : Span → Span → Bool
is_shorter a b = nat_lt a.count b.count || (a.count == b.count && nat_lt a.start b.start)

abbrev pub put_by_length : Span → List Span → List Span
put_by_length s [] = s ∷ []
put_by_length s (x ∷ xs) = if is_shorter x s then x ∷ put_by_length s xs else (s ∷ x ∷ xs)

-- the runs by length, and among equal lengths by start
unfoldable pub by_length : List Span → List Span
by_length [] = []
by_length (s ∷ ss) = put_by_length s (by_length ss)

-- the same test as a sort makes it
abbrev pub sorts_before : Span → Span → Bool
sorts_before a b = is_lt (ordering_then (nat_cmp a.count b.count) (nat_cmp a.start b.start))
