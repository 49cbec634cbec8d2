-- The largest unused spans of a data block (chapter "Directories", "Block Directories").
use Rattle.std.specs.Prelude.{◌≡◌, false, Bool, not, ◌==◌, ◌&&◌, ◌||◌, nat_le, nat_lt, if◌then◌else◌, List, [], ◌∷◌, ◌++◌, take}
use Rattle.std.specs.List.{list_all, list_any}
use Rattle.std.specs.List.Sorted.{IsPermutation}
use Rattle.xfs_dirdata.specs.declared.records.FreeSpan.{FreeSpan}

-- a span that is missing is all zero
abbrev pub missing : FreeSpan
missing = record { offset = 0; length = 0 }

-- the spans are one
abbrev pub is_same_span : FreeSpan → FreeSpan → Bool
is_same_span a b = a.offset == b.offset && a.length == b.length

-- the first span comes before the other: it is longer, or as long and at a lower offset
abbrev pub is_before : FreeSpan → FreeSpan → Bool
is_before a b = nat_lt b.length a.length || (a.length == b.length && nat_lt a.offset b.offset)

-- the spans with one more in its place
abbrev pub with_span : FreeSpan → List FreeSpan → List FreeSpan
with_span s [] = s ∷ []
with_span s (t ∷ ts) = if is_before s t then s ∷ t ∷ ts else t ∷ with_span s ts

-- the spans in order
abbrev pub spans_in_order : List FreeSpan → List FreeSpan
spans_in_order [] = []
spans_in_order (s ∷ ss) = with_span s (spans_in_order ss)

-- none of these spans comes before one
abbrev pub NoSpanBefore : FreeSpan → List FreeSpan → Type 0
NoSpanBefore s [] = Unit {0}
NoSpanBefore s (t ∷ ts) = (is_before t s ≡ false) × NoSpanBefore s ts

-- no span comes before one that stands ahead of it
abbrev pub SpansInOrder : List FreeSpan → Type 0
SpansInOrder [] = Unit {0}
SpansInOrder (s ∷ ss) = NoSpanBefore s ss × SpansInOrder ss

-- these, with the rest behind them, are all the spans and three missing ones in order
abbrev pub Lead : List FreeSpan → List FreeSpan → Type 0
Lead free bests =
    (rest : List FreeSpan) × IsPermutation (free ++ missing ∷ missing ∷ missing ∷ []) (bests ++ rest) × SpansInOrder (bests ++ rest)

-- the first three in order, with missing ones where there are fewer
unfoldable pub bests_of : List FreeSpan → List FreeSpan
bests_of free = take 3 (spans_in_order (free ++ missing ∷ missing ∷ missing ∷ []))

-- a span is one of these or missing
abbrev pub is_best_or_missing : List FreeSpan → FreeSpan → Bool
is_best_or_missing free s = is_same_span s missing || list_any (is_same_span s) free

-- two spans are not one, or are missing
abbrev pub bests_apart : FreeSpan → FreeSpan → Bool
bests_apart a b = is_same_span a missing || not (is_same_span a b)

-- a span is one of three, or no longer than the third
abbrev pub is_other : FreeSpan → FreeSpan → FreeSpan → FreeSpan → Bool
is_other a b c s = nat_le s.length c.length || is_same_span s a || is_same_span s b || is_same_span s c

-- three spans are the largest of these: each is one of them or missing, no two are one, their lengths do not ascend, and
-- no other is longer than the third
unfoldable pub are_bests : List FreeSpan → FreeSpan → FreeSpan → FreeSpan → Bool
are_bests free a b c =
    is_best_or_missing free a && is_best_or_missing free b && is_best_or_missing free c
    && bests_apart a b && bests_apart a c && bests_apart b c
    && nat_le b.length a.length && nat_le c.length b.length
    && list_all (is_other a b c) free
