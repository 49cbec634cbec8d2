-- The tree of a file's extents (chapter "Data Extents").
use Rattle.std.specs.Prelude.{ℕ, Bool, true, false, ◌+◌, ◌-◌, ◌/◌, ◌%◌, ◌^◌, ◌&&◌, ◌==◌, nat_le, nat_lt, List, [], ◌∷◌, Option, Some, None}
use Rattle.std.specs.Ordering.{nat_cmp}
use Rattle.byteorder.specs.Endian.{big_number}
use Rattle.xfs_word.specs.Extent.{packed}
use Rattle.xfs_word.specs.Field.{field_of}
use Rattle.xfs_word.specs.declared.extents.Extent.{Extent}
use Rattle.xfs_geom.specs.Volumes.{Volume}
use Rattle.xfs_tree.specs.declared.layout.Layout.{Layout}
use Rattle.xfs_tree.specs.Shape.{Shape}
use Rattle.xfs_kinds.specs.Groups.{lies_in_one_group}
use Rattle.xfs_kinds.specs.Spelled.{spelled}

-- leaves of 251 records of 16 bytes, nodes of 251 keys of eight bytes
abbrev pub file_layout : Layout
file_layout = record { magic = 0x424d_4133; long = true; high = false; record_len = 16; key_len = 8; leaf_cap = 251; node_cap = 251 }

-- the extent of a number of 128 bits: from the top the unwritten bit, 54 bits of offset, 52 of start, 21 of count
abbrev pub extent_of_number : ℕ → Extent
extent_of_number n = record { offset = n / 2 ^ 73 % 2 ^ 54; start = n / 2 ^ 21 % 2 ^ 52; count = n % 2 ^ 21; unwritten = n / 2 ^ 127 == 1 }

unfoldable pub extent_of : List ℕ → Extent
extent_of bytes = extent_of_number (big_number 16 bytes)

abbrev pub fits_extent : Extent → Bool
fits_extent e = nat_lt e.offset (2 ^ 54) && nat_lt e.start (2 ^ 52) && nat_lt e.count (2 ^ 21)

-- some blocks inside one group, at offsets that the file can have
abbrev pub is_extent : Volume → Extent → Bool
is_extent v e = fits_extent e && nat_le 1 e.count && nat_le (e.offset + e.count) (2 ^ 54 - 1) && lies_in_one_group v e.start e.count

-- an extent begins at or behind the offset at which the one before it ends
abbrev pub follows_offset : Option Extent → Extent → Bool
follows_offset None e = true
follows_offset (Some before) e = nat_le (before.offset + before.count) e.offset

-- a key is an offset in the file
abbrev pub offset_of : List ℕ → ℕ
offset_of bytes = field_of bytes 0 8

unfoldable pub offset_bytes : ℕ → List ℕ
offset_bytes offset = spelled ((8, offset) ∷ [])

abbrev pub bmbt_shape : ℕ → Shape Extent ℕ
bmbt_shape ino = record {
  layout = file_layout;
  owner = ino;
  record_of = extent_of;
  record_bytes = packed;
  key_of = offset_of;
  key_bytes = offset_bytes;
  low = λ e. e.offset;
  high = λ e. e.offset;
  order = nat_cmp;
  same = λ a b. a == b;
  fits = fits_extent;
  fits_key = λ offset. nat_lt offset (2 ^ 64);
  lawful = λ v before e. is_extent v e && follows_offset before e;
  settled = λ e. e;
}
