-- The single-block form of a directory (chapter "Directories", "Block Directories").
use Rattle.std.specs.Prelude.{ℕ, Bool, true, false, ◌+◌, ◌-◌, ◌*◌, ◌==◌, ◌&&◌, nat_le, List, [], ◌∷◌}
use Rattle.xfs_word.specs.Field.{field_of}
use Rattle.xfs_dirindex.specs.declared.pairs.Pair.{Pair}
use Rattle.xfs_dirindex.specs.Pairs.{pairs_at, is_index}
use Rattle.xfs_dirindex.specs.Mapped.{Mapped}
use Rattle.xfs_dirindex.specs.Data.{is_first_block, pairs_in}

-- the last 8 bytes of the block say how many pairs stand in front of them, and how many of these are stale
abbrev pub tail_count : List ℕ → ℕ
tail_count block = field_of block 4088 4

abbrev pub tail_pairs : List ℕ → List Pair
tail_pairs block = pairs_at block (4088 - 8 * tail_count block) (tail_count block)

-- the block is the first of its directory, its pairs lie behind its header, and they are sound
unfoldable pub is_single : ℕ → Mapped → Bool
is_single dir m =
    nat_le (64 + 8 * tail_count m.bytes) 4088
    && is_first_block dir true m
    && is_index (tail_pairs m.bytes) (field_of m.bytes 4092 4) (pairs_in dir true m)

-- it is the only block that is mapped
abbrev pub is_alone : ℕ → List Mapped → Bool
is_alone dir [] = false
is_alone dir (m ∷ []) = is_single dir m
is_alone dir (m ∷ n ∷ ms) = false

-- a directory of this size and with these mapped blocks is whole in the single-block form
abbrev pub is_whole_block : ℕ → ℕ → List Mapped → Bool
is_whole_block dir size ms = size == 4096 && is_alone dir ms
