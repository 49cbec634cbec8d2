-- The first block of an allocation group: eight sectors, of which the first four are headers (chapter "Allocation Groups").
use Rattle.std.specs.Prelude.{◌≡◌, ℕ, List, length, Some}
use Rattle.xfs_word.specs.Crc.{little_field_of}
use Rattle.xfs_word.specs.Field.{field_of, part_of, IsZero}
use Rattle.xfs_geom.specs.Volumes.{Volume}
use Rattle.xfs_geom.specs.declared.records.InoRec.{InoRec}
use Rattle.xfs_heads.specs.FreeList.{agfl_of}
use Rattle.xfs_heads.specs.FreeSpace.{agf_of}
use Rattle.xfs_heads.specs.Heads.{numbers}
use Rattle.xfs_heads.specs.Inodes.{agi_of}
use Rattle.xfs_place.specs.declared.placed.GroupPlaced.{GroupPlaced}
use Rattle.xfs_render.specs.Groups.{due_agf, due_agi, due_agfl}

-- the superblock, the header of free space, that of inodes and the free list, which states no log sequence number, as they are due,
-- with zeros beside the fields of both headers, and each of the 119 entries of the free list given; sectors 4 to 7 as they were
pub record IsHeaderBlock (v : Volume) (ag : ℕ) (super old : List ℕ) (inodes : List InoRec) (p : GroupPlaced) (block : List ℕ) : Type 0 where
  pub size : length block ≡ 4096
  pub super' : part_of block 0 512 ≡ super
  pub agf : agf_of v ag (part_of block 512 512) ≡ Some (record (due_agf v ag p) { crc = little_field_of (part_of block 512 512) 216 4 })
  pub agf_zero_before_lsn : IsZero (part_of block 512 512) 84 124
  pub agf_zero_behind_crc : IsZero (part_of block 512 512) 220 292
  pub agi : agi_of v ag (part_of block 1024 512) ≡ Some (record (due_agi v ag inodes p) { crc = little_field_of (part_of block 1024 512) 312 4 })
  pub agi_zero_behind_crc : IsZero (part_of block 1024 512) 316 4
  pub agi_zero_behind_levels : IsZero (part_of block 1024 512) 336 176
  pub agfl : (crc : ℕ) → agfl_of v ag (record (due_agf v ag p) { crc = crc }) (part_of block 1536 512) ≡ Some (due_agfl p)
  pub agfl_entries : numbers (part_of block 1536 512) 36 119 ≡ (due_agfl p).entries
  pub agfl_lsn : field_of (part_of block 1536 512) 24 8 ≡ 0
  pub rest : part_of block 2048 2048 ≡ part_of old 2048 2048
