-- Places, and the numbers that stand for them (xfs_db(8)).
use Rattle.std.specs.Prelude.{ℕ, ◌+◌, ◌*◌, ◌/◌, ◌%◌, Bool, true, false, nat_lt, if◌then◌else◌, codes, bytes_eq, List, [], ◌∷◌, ◌++◌, decimal, Option, Some, None}
use Rattle.std.specs.List.{find}
use Rattle.xfs_geom.specs.Conversions.{address_of, block_at, inode_of, slot_at}
use Rattle.xfs_geom.specs.Volumes.{Volume}
use Rattle.xfs_objects.specs.Hexadecimal.{hexadecimal}
use Rattle.xfs_objects.specs.declared.convert.Spot.{Spot}
use Rattle.xfs_objects.specs.declared.convert.Measure.{Measure}
use Rattle.xfs_objects.specs.declared.convert.Measure.TheVariants.{AgNumber, AgBlock, AgInode, FsBlock, DiskAddress, InodeNumber, Byte}

-- the name of a measure
abbrev pub measure_name : Measure → List ℕ
measure_name AgNumber = codes "agno"
measure_name AgBlock = codes "agblock"
measure_name AgInode = codes "agino"
measure_name FsBlock = codes "fsblock"
measure_name DiskAddress = codes "daddr"
measure_name InodeNumber = codes "ino"
measure_name Byte = codes "byte"

abbrev pub all_measures : List Measure
all_measures = AgNumber ∷ AgBlock ∷ AgInode ∷ FsBlock ∷ DiskAddress ∷ InodeNumber ∷ Byte ∷ []

unfoldable pub measure_named : List ℕ → Option Measure
measure_named word = find (λ (u : Measure). bytes_eq (measure_name u) word) all_measures

-- the block and the sector in it: the first, those of a sector of the disk, and an inode's slot
abbrev pub first_sector : Option ℕ → Option (ℕ × ℕ)
first_sector None = None
first_sector (Some block) = Some (block, 0)

unfoldable pub sector_at_daddr : Volume → ℕ → Option (ℕ × ℕ)
sector_at_daddr v daddr = if nat_lt (daddr / 8) v.dblocks then Some (daddr / 8, daddr % 8) else None

-- where a number of the measure points: numbers of inodes, addresses of blocks and sectors of the disk do
unfoldable pub spot_of : Volume → Measure → ℕ → Option (ℕ × ℕ)
spot_of v InodeNumber n = slot_at v n
spot_of v FsBlock n = first_sector (block_at v n)
spot_of v DiskAddress n = sector_at_daddr v n
spot_of v other n = None

-- the measure can be converted from
abbrev pub is_place : Measure → Bool
is_place InodeNumber = true
is_place FsBlock = true
is_place DiskAddress = true
is_place other = false

-- a spot of the code
abbrev pub pair_of : Spot → ℕ × ℕ
pair_of s = (s.block, s.sector)

-- the number of the measure for a sector of a block
unfoldable pub number_in : Volume → Measure → ℕ → ℕ → ℕ
number_in v AgNumber block sector = block / v.agblocks
number_in v AgBlock block sector = block % v.agblocks
number_in v AgInode block sector = block % v.agblocks * 8 + sector
number_in v FsBlock block sector = address_of v block
number_in v DiskAddress block sector = block * 8 + sector
number_in v InodeNumber block sector = inode_of v block sector
number_in v Byte block sector = (block * 8 + sector) * 512

-- a number in both bases
unfoldable pub both_bases : ℕ → List ℕ
both_bases n = codes "0x" ++ hexadecimal n ++ codes " (" ++ decimal n ++ codes ")\n"
