-- A leaf of attributes: one block with all attributes of an inode (chapter "Extended Attributes").
use Rattle.std.specs.Prelude.{ℕ, Bool, ◌+◌, ◌-◌, ◌*◌, ◌/◌, ◌==◌, ◌&&◌, ◌⊎◌, not, ◌<◌, ◌≤◌, nat_le, nat_lt, min, bit_and, if◌then◌else◌, List, length, map, count_by, filter, Result, Ok, Err}
use Rattle.std.specs.List.{range_with_len, list_all, sum_by}
use Rattle.xfs_word.specs.Field.{field_of, part_of}
use Rattle.xfs_word.specs.Hash.{hash_of}
use Rattle.xfs_attr.specs.declared.attributes.Attr.{Attr}
use Rattle.xfs_attr.specs.declared.attributes.AttrFault.{AttrFault}
use Rattle.xfs_attr.specs.declared.attributes.AttrFault.TheVariants.{Unsupported, Unsound}
use Rattle.xfs_attr.specs.declared.entries.LeafEntry.{LeafEntry}

-- the entry at an index: the hash of its name, the place of its value, its flags
unfoldable pub leaf_entry_at : List ℕ → ℕ → LeafEntry
leaf_entry_at block index = record {
  hash = field_of block (80 + 8 * index) 4;
  nameidx = field_of block (84 + 8 * index) 2;
  flags = field_of block (86 + 8 * index) 1;
}

-- the first n entries
abbrev pub entries : List ℕ → ℕ → List LeafEntry
entries block n = map (leaf_entry_at block) (range_with_len 0 n)

-- an entry's value begins with its size in two bytes, and the size of the name in one
abbrev pub value_size : List ℕ → LeafEntry → ℕ
value_size block entry = field_of block entry.nameidx 2

abbrev pub name_size : List ℕ → LeafEntry → ℕ
name_size block entry = field_of block (entry.nameidx + 2) 1

-- behind these stand the name and the value, and it all is rounded up to four bytes
abbrev pub leaf_entry_name : List ℕ → LeafEntry → List ℕ
leaf_entry_name block entry = part_of block (entry.nameidx + 3) (name_size block entry)

abbrev pub value_of : List ℕ → LeafEntry → List ℕ
value_of block entry = part_of block (entry.nameidx + 3 + name_size block entry) (value_size block entry)

unfoldable pub leaf_entry_size : List ℕ → LeafEntry → ℕ
leaf_entry_size block entry = (3 + name_size block entry + value_size block entry + 3) / 4 * 4

-- the entry's value stands in the leaf, which its lowest bit says
abbrev pub is_local : LeafEntry → Bool
is_local entry = not (bit_and entry.flags 1 == 0)

-- the entry is an attribute, and not one that is still to be written, which its highest bit says
abbrev pub is_complete : LeafEntry → Bool
is_complete entry = bit_and entry.flags 128 == 0

-- the entry's value lies in the block from `first` on, and its hash is that of its name
abbrev pub is_whole_entry : List ℕ → ℕ → LeafEntry → Bool
is_whole_entry block first entry =
    nat_le first entry.nameidx && nat_le (entry.nameidx + leaf_entry_size block entry) 4096 && hash_of (leaf_entry_name block entry) == entry.hash

-- the first entries and their values lie inside the block
pub record AreInside (block : List ℕ) (count : ℕ) : Type 0 where
  pub room : 80 + 8 * count ≤ 4096
  pub each : (i : ℕ) → i < count → (leaf_entry_at block i).nameidx + leaf_entry_size block (leaf_entry_at block i) ≤ 4096

-- no entry but the first has a lower hash than the one before it
unfoldable pub are_ascending : List ℕ → ℕ → Bool
are_ascending block count = list_all (λ i. nat_le (leaf_entry_at block (i - 1)).hash (leaf_entry_at block i).hash) (range_with_len 1 (count - 1))

-- the byte lies in the entry's value
abbrev pub holds_byte : List ℕ → ℕ → LeafEntry → Bool
holds_byte block byte entry = nat_le entry.nameidx byte && nat_lt byte (entry.nameidx + leaf_entry_size block entry)

-- no byte of the block lies in two of the values
unfoldable pub entries_apart : List ℕ → List LeafEntry → Bool
entries_apart block all = list_all (λ byte. nat_le (count_by (holds_byte block byte) all) 1) (range_with_len 0 (length block))

-- of any two of the first entries' values, one ends where the other begins or before
abbrev pub AreDisjoint : List ℕ → ℕ → Type 0
AreDisjoint block count = (i j : ℕ) → i < j → j < count →
    ((leaf_entry_at block i).nameidx + leaf_entry_size block (leaf_entry_at block i) ≤ (leaf_entry_at block j).nameidx)
    ⊎ ((leaf_entry_at block j).nameidx + leaf_entry_size block (leaf_entry_at block j) ≤ (leaf_entry_at block i).nameidx)

-- the leaf keeps the rules of its form
unfoldable pub is_sound_leaf : List ℕ → ℕ → Bool
is_sound_leaf block count =
    field_of block 0 4 == 0
    && field_of block 4 4 == 0
    && nat_le (80 + 8 * count) (field_of block 60 2)
    && list_all (is_whole_entry block (field_of block 60 2)) (entries block count)
    && are_ascending block count
    && entries_apart block (entries block count)
    && sum_by (leaf_entry_size block) (entries block count) == field_of block 58 2

-- the attribute of an entry
abbrev pub attribute_of : List ℕ → LeafEntry → Attr
attribute_of block entry = record { flags = entry.flags; name = leaf_entry_name block entry; value = value_of block entry }

-- the attributes of a leaf with so many entries, of which 502 lie inside the block at most
unfoldable pub leaf_with : List ℕ → ℕ → Result (List Attr) AttrFault
leaf_with block count =
    if list_all is_local (entries block (min count 502))
    then (if is_sound_leaf block count then Ok (map (attribute_of block) (filter is_complete (entries block count))) else Err Unsound)
    else Err (Unsupported 1)

-- the attributes of a leaf
abbrev pub leaf_of : List ℕ → Result (List Attr) AttrFault
leaf_of block = leaf_with block (field_of block 56 2)
