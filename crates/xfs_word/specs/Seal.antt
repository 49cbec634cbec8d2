-- Sealed objects: self-describing metadata with a right magic number, checksum, identifier, own address,
-- owner and log sequence number. From the chapter "Self Describing Metadata" of "XFS Algorithms and Data
-- Structures"; the offsets are of the chapters that describe each object.
use Rattle.std.specs.Prelude.{ℕ, ◌+◌, ◌-◌, ◌/◌, ◌%◌, ◌^◌, ◌≤◌, Bool, true, not, ◌&&◌, ◌||◌, ◌==◌, nat_lt, List, bytes_eq, Option, Some, None, IsTrue, IfSome}
use Rattle.xfs_word.specs.Field.{field_of, part_of, is_width, Beside}
use Rattle.xfs_word.specs.Crc.{has_checksum}
use Rattle.xfs_word.specs.declared.kinds.FieldPlace.{FieldPlace}
use Rattle.xfs_word.specs.declared.kinds.SealLayout.{SealLayout}
use Rattle.xfs_word.specs.declared.kinds.Seal.{Seal}
use Rattle.xfs_word.specs.declared.kinds.SealKind.{SealKind}
use Rattle.xfs_word.specs.declared.kinds.SealKind.TheVariants.{Super, Agf, Agi, Agfl, ShortTree, LongTree, Slot, DirData, DirFree, Index, Symlink}

-- a number of some bytes at an offset
abbrev pub number_at : ℕ → ℕ → Option FieldPlace
number_at offset width = Some (record { offset = offset; width = width })

-- where each kind of object has the fields that seal it
-- (chapters "Allocation Groups", "On-disk Inode", "Data Extents", "Directories", "Extended Attributes" and "Symbolic Links")
abbrev pub layout_of : SealKind → SealLayout
layout_of Super = record { size = 512; checksum = 224; identifier = None; address = None; owner = None; lsn = 240 }
layout_of Agf = record { size = 512; checksum = 216; identifier = Some 64; address = number_at 8 4; owner = None; lsn = 208 }
layout_of Agi = record { size = 512; checksum = 312; identifier = Some 296; address = number_at 8 4; owner = None; lsn = 320 }
layout_of Agfl = record { size = 512; checksum = 32; identifier = Some 8; address = number_at 4 4; owner = None; lsn = 24 }
layout_of (ShortTree magic) = record { size = 4096; checksum = 52; identifier = Some 32; address = number_at 16 8; owner = number_at 48 4; lsn = 24 }
layout_of LongTree = record { size = 4096; checksum = 64; identifier = Some 40; address = number_at 24 8; owner = number_at 56 8; lsn = 32 }
layout_of Slot = record { size = 512; checksum = 100; identifier = Some 160; address = number_at 152 8; owner = None; lsn = 112 }
layout_of DirData = record { size = 4096; checksum = 4; identifier = Some 24; address = number_at 8 8; owner = number_at 40 8; lsn = 16 }
layout_of DirFree = record { size = 4096; checksum = 4; identifier = Some 24; address = number_at 8 8; owner = number_at 40 8; lsn = 16 }
layout_of (Index magic) = record { size = 4096; checksum = 12; identifier = Some 32; address = number_at 16 8; owner = number_at 48 8; lsn = 24 }
layout_of Symlink = record { size = 4096; checksum = 12; identifier = Some 16; address = number_at 40 8; owner = number_at 32 8; lsn = 48 }

-- a block's first two bytes, the upper half of its first number, are the magic number of an inode, `IN`: it is then no
-- block of another kind (chapter "On-disk Inode")
abbrev pub begins_as_slot : List ℕ → Bool
begins_as_slot bytes = field_of bytes 0 4 / 2 ^ 16 == 0x494e

-- the object has the kind's magic number, and its version where the kind has one (chapter "Magic Numbers")
unfoldable pub has_magic : SealKind → List ℕ → Bool
has_magic Super bytes = field_of bytes 0 4 == 0x5846_5342 && field_of bytes 100 2 % 16 == 5
has_magic Agf bytes = field_of bytes 0 4 == 0x5841_4746
has_magic Agi bytes = field_of bytes 0 4 == 0x5841_4749
has_magic Agfl bytes = field_of bytes 0 4 == 0x5841_464c
has_magic (ShortTree magic) bytes = field_of bytes 0 4 == magic
has_magic LongTree bytes = field_of bytes 0 4 == 0x424d_4133
has_magic Slot bytes = field_of bytes 0 2 == 0x494e && field_of bytes 4 1 == 3
has_magic DirData bytes = field_of bytes 0 4 == 0x5844_4433 || field_of bytes 0 4 == 0x5844_4233
has_magic DirFree bytes = field_of bytes 0 4 == 0x5844_4633
has_magic (Index magic) bytes = field_of bytes 8 2 == magic && not (begins_as_slot bytes)
has_magic Symlink bytes = field_of bytes 0 4 == 0x5853_4c4d

-- the identifier at the offset, where there is one, is this one
abbrev pub identifier_is : Option ℕ → List ℕ → List ℕ → Bool
identifier_is None uuid bytes = true
identifier_is (Some at) uuid bytes = bytes_eq (part_of bytes at 16) uuid

-- the number at the place, where there is one, is this one
abbrev pub number_is : Option FieldPlace → ℕ → List ℕ → Bool
number_is None number bytes = true
number_is (Some place) number bytes = field_of bytes place.offset place.width == number

-- the owner at the place, where an owner is demanded, is that one
abbrev pub owner_is : Option FieldPlace → Option ℕ → List ℕ → Bool
owner_is place None bytes = true
owner_is place (Some owner) bytes = number_is place owner bytes

-- a log sequence number is all ones, or its cycle is one that a log can reach (chapter "Journaling Log")
abbrev pub is_lsn : ℕ → Bool
is_lsn lsn = lsn == 2 ^ 64 - 1 || nat_lt (lsn / 2 ^ 32) (2 ^ 31 - 1)

-- the object is right at its place in all but the checksum
unfoldable pub is_ready : Seal → List ℕ → Bool
is_ready seal bytes =
    let layout = layout_of seal.kind in
    has_magic seal.kind bytes
    && identifier_is layout.identifier seal.uuid bytes
    && number_is layout.address seal.place bytes
    && owner_is layout.owner seal.owner bytes
    && is_lsn (field_of bytes layout.lsn 8)

-- the object is sealed at its place: it is right in all, the checksum among it
unfoldable pub is_sealed : Seal → List ℕ → Bool
is_sealed seal bytes = is_ready seal bytes && has_checksum bytes (layout_of seal.kind).checksum

-- the places of a layout lie inside the object
pub record IsInside (layout : SealLayout) : Type 0 where
  pub checksum : layout.checksum + 4 ≤ layout.size
  pub identifier : IfSome layout.identifier (λ at. at + 16 ≤ layout.size)
  pub address : IfSome layout.address (λ place. IsTrue (is_width place.width) × (place.offset + place.width ≤ layout.size))
  pub owner : IfSome layout.owner (λ place. IsTrue (is_width place.width) × (place.offset + place.width ≤ layout.size))
  pub lsn : layout.lsn + 8 ≤ layout.size

-- the places of a layout lie beside the checksum
pub record IsApart (layout : SealLayout) : Type 0 where
  pub identifier : IfSome layout.identifier (λ at. Beside layout.checksum 4 at 16)
  pub address : IfSome layout.address (λ place. Beside layout.checksum 4 place.offset place.width)
  pub owner : IfSome layout.owner (λ place. Beside layout.checksum 4 place.offset place.width)
  pub lsn : Beside layout.checksum 4 layout.lsn 8
