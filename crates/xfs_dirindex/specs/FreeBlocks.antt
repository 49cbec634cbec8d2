-- The free blocks of the node form (chapter "Directories", "Free Index").
use Rattle.std.specs.Prelude.{ℕ, Bool, true, not, ◌+◌, ◌-◌, ◌*◌, ◌/◌, ◌%◌, ◌==◌, ◌&&◌, nat_le, nat_lt, if◌then◌else◌, List, count_by}
use Rattle.std.specs.List.{list_all, range_with_len}
use Rattle.xfs_word.specs.Field.{field_of}
use Rattle.xfs_dirindex.specs.declared.data.Best.{Best}
use Rattle.xfs_dirindex.specs.Mapped.{Mapped, is_free_index}
use Rattle.xfs_dirindex.specs.Leaf.{are_values}
use Rattle.xfs_dirindex.specs.Lookup.{bytes_mapped, is_mapped}

-- how many values a free block has
abbrev pub free_count : List ℕ → ℕ
free_count bytes = field_of bytes 52 4

-- its values are numbers of 2 bytes behind its header; 0xffff stands for a data block that is not mapped
abbrev pub is_used_value : List ℕ → ℕ → Bool
is_used_value bytes j = not (field_of bytes (64 + 2 * j) 2 == 0xffff)

unfoldable pub used_in : List ℕ → ℕ → ℕ
used_in bytes count = count_by (is_used_value bytes) (range_with_len 0 count)

-- free block i has the values of up to 2016 data blocks from data block 2016 * i on; it states that first one, how many
-- they are and how many of them are mapped
unfoldable pub has_values : List Best → ℕ → List ℕ → Bool
has_values bests i bytes =
    field_of bytes 48 4 == 2016 * i
    && nat_le (free_count bytes) 2016
    && field_of bytes 56 4 == used_in bytes (free_count bytes)
    && are_values bests bytes 64 (2016 * i) (free_count bytes)

-- free block i stands at file block 0x1000000 + i; other blocks are none
unfoldable pub is_free_sound : List Best → Mapped → Bool
is_free_sound bests m = if is_free_index m then has_values bests (m.offset - 0x1000000) m.bytes else true

-- a data block has its value in its free block
unfoldable pub is_covered : Best → List ℕ → Bool
is_covered b bytes = is_mapped bytes && nat_lt (b.offset % 2016) (free_count bytes)

abbrev pub has_value : List Mapped → Best → Bool
has_value ms b = is_covered b (bytes_mapped ms (0x1000000 + b.offset / 2016))

-- the free blocks are sound, and each data block has its value in one
unfoldable pub are_free : List Best → List Mapped → Bool
are_free bests ms = list_all (is_free_sound bests) ms && list_all (has_value ms) bests
