-- The pairs of an index: the hash of a name and the address of its entry (chapter "Directories").
use Rattle.std.specs.Prelude.{ℕ, Bool, true, ◌+◌, ◌*◌, ◌==◌, ◌&&◌, not, nat_le, List, [], ◌∷◌, ◌++◌, map, count_by, filter}
use Rattle.std.specs.List.{range_with_len, list_all}
use Rattle.xfs_word.specs.Field.{field_of}
use Rattle.xfs_dirindex.specs.declared.pairs.Pair.{Pair}

-- the pair at a byte offset
abbrev pub pair_at : List ℕ → ℕ → Pair
pair_at bytes at = record { hash = field_of bytes at 4; address = field_of bytes (at + 4) 4 }

-- so many pairs one behind the other from a byte offset on
unfoldable pub pairs_at : List ℕ → ℕ → ℕ → List Pair
pairs_at bytes at count = map (λ k. pair_at bytes (at + 8 * k)) (range_with_len 0 count)

-- a pair that is stale stands for no entry: its address is 0
abbrev pub is_stale : Pair → Bool
is_stale pair = pair.address == 0

abbrev pub is_live : Pair → Bool
is_live pair = not (is_stale pair)

-- no hash is below the one before it, nor the first below a number
abbrev pub rises : ℕ → List Pair → Bool
rises least [] = true
rises least (p ∷ ps) = nat_le least p.hash && rises p.hash ps

-- two pairs are one
abbrev pub is_pair : Pair → Pair → Bool
is_pair a b = a.hash == b.hash && a.address == b.address

-- how often a pair stands among others
abbrev pub times : Pair → List Pair → ℕ
times pair pairs = count_by (is_pair pair) pairs

-- two lists have the same pairs in any order: each pair stands in one as often as in the other
unfoldable pub same_pairs : List Pair → List Pair → Bool
same_pairs xs ys = list_all (λ p. times p xs == times p ys) (xs ++ ys)

-- the pairs of an index are sound: the hashes do not descend, the stale ones are as many as stated, and the others are
-- exactly those of the entries
unfoldable pub is_index : List Pair → ℕ → List Pair → Bool
is_index pairs stale due = rises 0 pairs && count_by is_stale pairs == stale && same_pairs (filter is_live pairs) due
