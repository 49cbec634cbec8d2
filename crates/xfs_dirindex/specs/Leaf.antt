-- The leaf form of a directory, and the values of the longest unused spans (chapter "Directories", "Leaf Directories").
use Rattle.std.specs.Prelude.{ℕ, Bool, false, ◌+◌, ◌-◌, ◌*◌, ◌==◌, ◌&&◌, nat_le, if◌then◌else◌, List, [], ◌∷◌, filter}
use Rattle.std.specs.List.{list_all, range_with_len}
use Rattle.xfs_word.specs.Field.{field_of}
use Rattle.xfs_dirindex.specs.declared.pairs.Pair.{Pair}
use Rattle.xfs_dirindex.specs.declared.data.Best.{Best}
use Rattle.xfs_dirindex.specs.Pairs.{pairs_at, is_index}
use Rattle.xfs_dirindex.specs.Mapped.{Mapped, is_beyond}
use Rattle.xfs_dirindex.specs.Data.{are_data, all_pairs, all_bests}

-- the longest unused span of a data block, or 0xffff where it is not mapped
abbrev pub best_length_of : List Best → ℕ → ℕ
best_length_of [] block = 0xffff
best_length_of (b ∷ bs) block = if b.offset == block then b.length else best_length_of bs block

-- so many values from a byte offset on are those of the data blocks from some block on
unfoldable pub are_values : List Best → List ℕ → ℕ → ℕ → ℕ → Bool
are_values bests bytes at first count = list_all (λ j. field_of bytes (at + 2 * j) 2 == best_length_of bests (first + j)) (range_with_len 0 count)

-- how many file blocks there are up to the last data block
abbrev pub end_of : List Best → ℕ
end_of [] = 0
end_of (b ∷ []) = b.offset + 1
end_of (b ∷ c ∷ bs) = end_of (c ∷ bs)

-- how many pairs an index block has, how many of them are stale, and in the leaf form how many values
abbrev pub leaf_count : List ℕ → ℕ
leaf_count bytes = field_of bytes 56 2

abbrev pub leaf_stale : List ℕ → ℕ
leaf_stale bytes = field_of bytes 58 2

abbrev pub value_count : List ℕ → ℕ
value_count bytes = field_of bytes 4092 4

-- the pairs, the values and their count fit the block, the pairs are sound, and there is a value for each file block up
-- to the last data block
unfoldable pub is_leaf : List Best → List Pair → List ℕ → Bool
is_leaf bests due bytes =
    field_of bytes 8 2 == 0x3df1
    && nat_le (64 + 8 * leaf_count bytes + 2 * value_count bytes) 4092
    && is_index (pairs_at bytes 64 (leaf_count bytes)) (leaf_stale bytes) due
    && nat_le (end_of bests) (value_count bytes)
    && are_values bests bytes (4092 - 2 * value_count bytes) 0 (value_count bytes)

-- the only block is a leaf at the first file block of the index
abbrev pub is_only_leaf : List Best → List Pair → List Mapped → Bool
is_only_leaf bests due [] = false
is_only_leaf bests due (m ∷ []) = m.offset == 0x800000 && is_leaf bests due m.bytes
is_only_leaf bests due (m ∷ n ∷ ms) = false

-- a directory of this size and with these mapped blocks is whole in the leaf form
unfoldable pub is_whole_leaf : ℕ → ℕ → List Mapped → Bool
is_whole_leaf dir size ms =
    are_data dir ms
    && size == 4096 * end_of (all_bests dir ms)
    && is_only_leaf (all_bests dir ms) (all_pairs dir ms) (filter is_beyond ms)
