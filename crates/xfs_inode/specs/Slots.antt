-- What the slot of an inode reads as by itself (chapter "On-disk Inode").
use Rattle.std.specs.Prelude.{ℕ, Bool, ◌+◌, ◌*◌, ◌/◌, ◌%◌, ◌^◌, ◌==◌, ◌&&◌, ◌||◌, not, nat_le, nat_lt, if◌then◌else◌, List, Option, Some, None}
use Rattle.xfs_word.specs.Field.{field_of}
use Rattle.xfs_word.specs.Seal.{is_sealed}
use Rattle.xfs_word.specs.declared.kinds.Seal.{Seal}
use Rattle.xfs_word.specs.declared.kinds.SealKind.TheVariants as Kind
use Rattle.xfs_geom.specs.Volumes.{Volume}
use Rattle.xfs_volume.specs.declared.cores.Core.{Core}
use Rattle.xfs_inode.specs.Cores.{stated_core}
use Rattle.xfs_inode.specs.declared.reading.SlotRead.{SlotRead}
use Rattle.xfs_inode.specs.declared.reading.SlotRead.TheVariants as Read

-- a slot is sealed under the volume's identifier, at the number of its inode
abbrev pub slot_seal : Volume → ℕ → Seal
slot_seal v ino = record { kind = Kind.Slot; place = ino; owner = None; uuid = v.uuid }

-- the bit of a number, counted from the lowest, is set
abbrev pub has_bit : ℕ → ℕ → Bool
has_bit number bit = number / 2 ^ bit % 2 == 1

-- the blocks of the extent whose 16 bytes stand at an offset: its lowest 21 bits (chapter "Data Extents")
unfoldable pub extent_count : List ℕ → ℕ → ℕ
extent_count bytes at = field_of bytes (at + 12) 4 % 2 ^ 21

-- the bytes of the data fork, which begins at byte 176: it reaches up to the attribute fork, or to the slot's end
abbrev pub fork_bytes : ℕ → ℕ
fork_bytes forkoff = if forkoff == 0 then 336 else 8 * forkoff

-- where the attribute fork begins, if there is one
abbrev pub attribute_start : ℕ → ℕ
attribute_start forkoff = 176 + 8 * forkoff

-- the only extent of the attribute fork lies inside the slot and has more than one block
abbrev pub has_long_extent : Core → List ℕ → Bool
has_long_extent core slot =
    core.anextents == 1 && nat_le (attribute_start core.forkoff + 16) 512 && nat_lt 1 (extent_count slot (attribute_start core.forkoff))

-- there is an attribute fork, and it is a tree, has several extents or has one of several blocks: its attributes are in
-- more than one block (chapter "Extended Attributes")
abbrev pub has_wide_attributes : Core → List ℕ → Bool
has_wide_attributes core slot =
    not (core.forkoff == 0) && (core.aformat == 3 || (core.aformat == 2 && (nat_lt 1 core.anextents || has_long_extent core slot)))

-- the number of the first feature that a slot uses and that is not supported: 3 a real-time file, 4 blocks shared by
-- files, 5 times of 64 bits, 6 counts of 64 bits, 2 attributes in more than one block
unfoldable pub unsupported : Core → List ℕ → Option ℕ
unsupported core slot =
    if has_bit core.flags 0 then Some 3
    else if has_bit core.flags2 1 then Some 4
    else if has_bit core.flags2 3 then Some 5
    else if has_bit core.flags2 4 then Some 6
    else if has_wide_attributes core slot then Some 2
    else None

-- a slot in use reads as its core, where all its features are supported
abbrev pub used_read : Core → Option ℕ → SlotRead
used_read core None = Read.InUse core
used_read core (Some what) = Read.Unsupported what

-- what the slot of an inode reads as without any other block
unfoldable pub slot_read : Volume → ℕ → List ℕ → SlotRead
slot_read v ino slot =
    if not (is_sealed (slot_seal v ino) slot) then Read.Unsound
    else if (stated_core slot).mode == 0 then Read.Free
    else used_read (stated_core slot) (unsupported (stated_core slot) slot)
