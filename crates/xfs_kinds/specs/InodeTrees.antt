-- The trees of chunks of inodes: of all, and of those with a free inode (chapter "AG Inode Management").
use Rattle.std.specs.Prelude.{ℕ, zero, suc, bit_or, Bool, true, false, not, ◌+◌, ◌*◌, ◌/◌, ◌%◌, ◌^◌, ◌&&◌, ◌||◌, ◌==◌, if◌then◌else◌, nat_le, nat_lt, List, [], ◌∷◌, Option, Some, None}
use Rattle.std.specs.List.{list_all, range_with_len}
use Rattle.std.specs.Ordering.{nat_cmp}
use Rattle.xfs_word.specs.Field.{field_of}
use Rattle.xfs_geom.specs.Conversions.{is_fixed}
use Rattle.xfs_geom.specs.Volumes.{Volume}
use Rattle.xfs_geom.specs.declared.records.InoRec.{InoRec}
use Rattle.xfs_tree.specs.declared.layout.Layout.{Layout}
use Rattle.xfs_tree.specs.Shape.{Shape}
use Rattle.xfs_kinds.specs.Groups.{lies_in_group}
use Rattle.xfs_kinds.specs.Spelled.{spelled}

-- leaves of 252 records of 16 bytes, nodes of 505 keys of four bytes
abbrev pub inode_layout : ℕ → Layout
inode_layout magic = record { magic = magic; long = false; high = false; record_len = 16; key_len = 4; leaf_cap = 252; node_cap = 505 }

-- a bit of the mask stands for four inodes, the lowest for the first; it is set where they are missing
abbrev pub is_missing : ℕ → ℕ → Bool
is_missing holemask inode = holemask / 2 ^ (inode / 4) % 2 == 1

-- four bits set for each of the lowest bits of the mask that is set
unfoldable pub four_each : ℕ → ℕ → ℕ
four_each zero holemask = 0
four_each (suc n) holemask = holemask % 2 * 15 + 16 * four_each n (holemask / 2)

-- a bit for each of 64 inodes, set where it is missing
abbrev pub missing_bits : ℕ → ℕ
missing_bits holemask = four_each 16 holemask

-- the first inode, the mask of missing ones, how many there are, how many are free, a bit for each that is free
abbrev pub chunk_of_bytes : List ℕ → InoRec
chunk_of_bytes bytes = record {
  startino = field_of bytes 0 4;
  holemask = field_of bytes 4 2;
  count = field_of bytes 6 1;
  freecount = field_of bytes 7 1;
  free = field_of bytes 8 8;
}

-- the bits of missing inodes mean nothing, and are written 1
abbrev pub settled_chunk : InoRec → InoRec
settled_chunk r = record r { free = bit_or r.free (missing_bits r.holemask) }

abbrev pub chunk_rows : InoRec → List (ℕ × ℕ)
chunk_rows r = (4, r.startino) ∷ (2, r.holemask) ∷ (1, r.count) ∷ (1, r.freecount) ∷ (8, r.free) ∷ []

unfoldable pub chunk_bytes : InoRec → List ℕ
chunk_bytes r = spelled (chunk_rows (settled_chunk r))

-- all inodes are there, or the first half of them is missing, or the second
abbrev pub is_holemask : ℕ → Bool
is_holemask holemask = holemask == 0 || holemask == 0x00ff || holemask == 0xff00

abbrev pub fits_chunk : InoRec → Bool
fits_chunk r = nat_lt r.startino (2 ^ 32) && is_holemask r.holemask && nat_lt r.count (2 ^ 8) && nat_lt r.freecount (2 ^ 8) && nat_lt r.free (2 ^ 64)

-- the chunk has as many inodes as its mask leaves
abbrev pub has_count : ℕ → ℕ → Bool
has_count holemask count = count == (if holemask == 0 then 64 else 32)

-- the first inode of a multiple of eight blocks, behind the first eight of the group
abbrev pub is_first_inode : ℕ → Bool
is_first_inode startino = startino % 64 == 0 && nat_le 64 startino

-- a block of the chunk holds eight of its inodes; the block is missing, or it has no fixed use
abbrev pub is_block_free_of_use : Volume → ℕ → ℕ → ℕ → Bool
is_block_free_of_use v holemask start block = is_missing holemask (8 * block) || not (is_fixed v (start + block))

unfoldable pub are_free_of_use : Volume → ℕ → ℕ → Bool
are_free_of_use v holemask start = list_all (is_block_free_of_use v holemask start) (range_with_len 0 8)

-- no block of the chunk but the missing ones has a fixed use
abbrev pub is_chunk_clear : Volume → ℕ → InoRec → Bool
is_chunk_clear v ag r = are_free_of_use v r.holemask (ag * v.agblocks + r.startino / 8)

-- the inodes are those of eight blocks of the group from a multiple of eight on, behind its first eight blocks
abbrev pub is_chunk : Volume → ℕ → InoRec → Bool
is_chunk v ag r =
    fits_chunk r && has_count r.holemask r.count && is_first_inode r.startino && lies_in_group v ag (r.startino / 8) 8 && is_chunk_clear v ag r

abbrev pub ascends_inode : Option InoRec → InoRec → Bool
ascends_inode None r = true
ascends_inode (Some before) r = nat_lt before.startino r.startino

-- a key is the number of a first inode
abbrev pub startino_of : List ℕ → ℕ
startino_of bytes = field_of bytes 0 4

unfoldable pub startino_bytes : ℕ → List ℕ
startino_bytes startino = spelled ((4, startino) ∷ [])

-- a tree of chunks of a group, by its magic number
abbrev pub inode_shape : ℕ → ℕ → Shape InoRec ℕ
inode_shape magic ag = record {
  layout = inode_layout magic;
  owner = ag;
  record_of = chunk_of_bytes;
  record_bytes = chunk_bytes;
  key_of = startino_of;
  key_bytes = startino_bytes;
  low = λ r. r.startino;
  high = λ r. r.startino;
  order = nat_cmp;
  same = λ a b. a == b;
  fits = fits_chunk;
  fits_key = λ startino. nat_lt startino (2 ^ 32);
  lawful = λ v before r. is_chunk v ag r && ascends_inode before r;
  settled = settled_chunk;
}

abbrev pub ino_shape : ℕ → Shape InoRec ℕ
ino_shape = inode_shape 0x4941_4233

abbrev pub fino_shape : ℕ → Shape InoRec ℕ
fino_shape = inode_shape 0x4649_4233
