-- The header of a group's inodes (chapter "AG Inode Management").
use Rattle.std.specs.Prelude.{ℕ, Bool, ◌==◌, ◌&&◌, if◌then◌else◌, List, Option, Some, None}
use Rattle.xfs_word.specs.Crc.{little_field_of}
use Rattle.xfs_word.specs.Field.{field_of, part_of}
use Rattle.xfs_word.specs.Seal.{is_sealed}
use Rattle.xfs_word.specs.declared.kinds.SealKind.TheVariants as Kind
use Rattle.xfs_geom.specs.Conversions.{group_length}
use Rattle.xfs_geom.specs.Volumes.{Volume}
use Rattle.xfs_heads.specs.Heads.{head_seal, is_level, is_root_block, numbers}
use Rattle.xfs_heads.specs.declared.inodes.Agi.{Agi}

-- the values that a sector states
abbrev pub stated_agi : List ℕ → Agi
stated_agi sector = record {
  magicnum = field_of sector 0 4;
  versionnum = field_of sector 4 4;
  seqno = field_of sector 8 4;
  length = field_of sector 12 4;
  count = field_of sector 16 4;
  root = field_of sector 20 4;
  level = field_of sector 24 4;
  freecount = field_of sector 28 4;
  newino = field_of sector 32 4;
  dirino = field_of sector 36 4;
  unlinked = numbers sector 40 64;
  uuid = part_of sector 296 16;
  crc = little_field_of sector 312 4;
  lsn = field_of sector 320 8;
  free_root = field_of sector 328 4;
  free_level = field_of sector 332 4;
}

-- version 1, the length of the group, and the levels and roots of the two trees
abbrev pub is_agi_shaped : Volume → ℕ → Agi → Bool
is_agi_shaped v ag agi =
    agi.versionnum == 1
    && agi.length == group_length v ag
    && is_level agi.level
    && is_level agi.free_level
    && is_root_block agi.root agi.length
    && is_root_block agi.free_root agi.length

-- the header of a group's inodes, where the sector is sealed as it and has its shape
unfoldable pub agi_of : Volume → ℕ → List ℕ → Option Agi
agi_of v ag sector = if is_sealed (head_seal Kind.Agi v ag) sector && is_agi_shaped v ag (stated_agi sector) then Some (stated_agi sector) else None
