-- The tree of the owners of a group's blocks (chapter "Reverse-Mapping B+tree").
use Rattle.std.specs.Prelude.{ℕ, Bool, true, false, not, min, ◌+◌, ◌-◌, ◌^◌, ◌&&◌, ◌==◌, if◌then◌else◌, nat_le, nat_lt, List, [], ◌∷◌, Option, Some, None}
use Rattle.std.specs.Ordering.{nat_cmp, on, then_cmp}
use Rattle.std.specs.declared.cmp.Ordering.{Ordering}
use Rattle.xfs_word.specs.Field.{field_of}
use Rattle.xfs_geom.specs.Volumes.{Volume}
use Rattle.xfs_geom.specs.declared.records.RmapRec.{RmapRec}
use Rattle.xfs_tree.specs.declared.layout.Layout.{Layout}
use Rattle.xfs_tree.specs.Shape.{Shape}
use Rattle.xfs_kinds.specs.Groups.{lies_in_group}
use Rattle.xfs_kinds.specs.OffsetWords.{offset_in_fork, is_unwritten, is_file_data, key_word}
use Rattle.xfs_kinds.specs.Spelled.{spelled}
use Rattle.xfs_kinds.specs.declared.owners.RmapKey.{RmapKey}

-- leaves of 168 records of 24 bytes, nodes of 91 pairs of keys of 20 bytes each
abbrev pub owner_layout : Layout
owner_layout = record { magic = 0x524d_4233; long = false; high = true; record_len = 24; key_len = 20; leaf_cap = 168; node_cap = 91 }

-- the start and the count of a run, its owner, its offset word
abbrev pub owner_of_bytes : List ℕ → RmapRec
owner_of_bytes bytes = record { start = field_of bytes 0 4; count = field_of bytes 4 4; owner = field_of bytes 8 8; offset_word = field_of bytes 16 8 }

abbrev pub owner_rows : RmapRec → List (ℕ × ℕ)
owner_rows r = (4, r.start) ∷ (4, r.count) ∷ (8, r.owner) ∷ (8, r.offset_word) ∷ []

unfoldable pub owner_bytes : RmapRec → List ℕ
owner_bytes r = spelled (owner_rows r)

-- a block, its owner, its offset word, of which the unwritten bit is not asked
abbrev pub key_of_bytes : List ℕ → RmapKey
key_of_bytes bytes = record { start = field_of bytes 0 4; owner = field_of bytes 4 8; offset_word = key_word (field_of bytes 12 8) }

abbrev pub key_rows : RmapKey → List (ℕ × ℕ)
key_rows k = (4, k.start) ∷ (8, k.owner) ∷ (8, k.offset_word) ∷ []

unfoldable pub key_bytes : RmapKey → List ℕ
key_bytes k = spelled (key_rows k)

abbrev pub fits_owner : RmapRec → Bool
fits_owner r = nat_lt r.start (2 ^ 32) && nat_lt r.count (2 ^ 32) && nat_lt r.owner (2 ^ 64) && nat_lt r.offset_word (2 ^ 64)

abbrev pub fits_key : RmapKey → Bool
fits_key k = nat_lt k.start (2 ^ 32) && nat_lt k.owner (2 ^ 64) && nat_lt k.offset_word (2 ^ 64) && not (is_unwritten k.offset_word)

-- the last of so many numbers from the first on; or the most that a field holds, which no lawful run comes to
abbrev pub last_block_of : ℕ → ℕ → ℕ → ℕ
last_block_of most first count = min (first + (count - 1)) most

-- the word of the last block: the offset of file data goes up with the block
abbrev pub last_word : RmapRec → ℕ
last_word r = if is_file_data r.owner r.offset_word then last_block_of (2 ^ 64 - 1) r.offset_word r.count else r.offset_word

-- the key of the first block, and of the last
abbrev pub low_key : RmapRec → RmapKey
low_key r = record { start = r.start; owner = r.owner; offset_word = key_word r.offset_word }

abbrev pub high_key : RmapRec → RmapKey
high_key r = record { start = last_block_of (2 ^ 32 - 1) r.start r.count; owner = r.owner; offset_word = key_word (last_word r) }

-- by block, then by owner, then by offset word
abbrev pub block_order : RmapKey → RmapKey → Ordering
block_order = on (λ (k : RmapKey). k.start) nat_cmp

abbrev pub owner_order : RmapKey → RmapKey → Ordering
owner_order = on (λ (k : RmapKey). k.owner) nat_cmp

abbrev pub offset_order : RmapKey → RmapKey → Ordering
offset_order = on (λ (k : RmapKey). k.offset_word) nat_cmp

abbrev pub key_order : RmapKey → RmapKey → Ordering
key_order = then_cmp (then_cmp block_order owner_order) offset_order

-- there is an owner
abbrev pub is_owner : ℕ → Bool
is_owner owner = not (owner == 2 ^ 64 - 1)

-- some blocks inside the group with an owner, at offsets that a fork can have
abbrev pub is_owned_run : Volume → ℕ → RmapRec → Bool
is_owned_run v ag r =
    fits_owner r && nat_le 1 r.count && is_owner r.owner && nat_le (offset_in_fork r.offset_word + r.count) (2 ^ 54) && lies_in_group v ag r.start r.count

-- a run begins at or behind the end of the one before it
abbrev pub follows_end : Option RmapRec → RmapRec → Bool
follows_end None r = true
follows_end (Some before) r = nat_le (before.start + before.count) r.start

abbrev pub rmap_shape : ℕ → Shape RmapRec RmapKey
rmap_shape ag = record {
  layout = owner_layout;
  owner = ag;
  record_of = owner_of_bytes;
  record_bytes = owner_bytes;
  key_of = key_of_bytes;
  key_bytes = key_bytes;
  low = low_key;
  high = high_key;
  order = key_order;
  same = λ a b. a.start == b.start && (a.owner == b.owner && a.offset_word == b.offset_word);
  fits = fits_owner;
  fits_key = fits_key;
  lawful = λ v before r. is_owned_run v ag r && follows_end before r;
  settled = λ r. r;
}
