-- The header of a group's free space (chapter "AG Free Space Management").
use Rattle.std.specs.Prelude.{ℕ, Bool, ◌+◌, ◌-◌, ◌%◌, ◌==◌, ◌&&◌, ◌||◌, nat_le, nat_lt, if◌then◌else◌, List, Option, Some, None}
use Rattle.xfs_word.specs.Crc.{little_field_of}
use Rattle.xfs_word.specs.Field.{field_of, part_of}
use Rattle.xfs_word.specs.Seal.{is_sealed}
use Rattle.xfs_word.specs.declared.kinds.SealKind.TheVariants as Kind
use Rattle.xfs_geom.specs.Conversions.{group_length}
use Rattle.xfs_geom.specs.Volumes.{Volume}
use Rattle.xfs_heads.specs.Heads.{head_seal, is_level, is_root_block}
use Rattle.xfs_heads.specs.declared.free_space.Agf.{Agf}

-- the values that a sector states
abbrev pub stated_agf : List ℕ → Agf
stated_agf sector = record {
  magicnum = field_of sector 0 4;
  versionnum = field_of sector 4 4;
  seqno = field_of sector 8 4;
  length = field_of sector 12 4;
  bnoroot = field_of sector 16 4;
  cntroot = field_of sector 20 4;
  rmaproot = field_of sector 24 4;
  bnolevel = field_of sector 28 4;
  cntlevel = field_of sector 32 4;
  rmaplevel = field_of sector 36 4;
  flfirst = field_of sector 40 4;
  fllast = field_of sector 44 4;
  flcount = field_of sector 48 4;
  freeblks = field_of sector 52 4;
  longest = field_of sector 56 4;
  btreeblks = field_of sector 60 4;
  uuid = part_of sector 64 16;
  rmapblocks = field_of sector 80 4;
  lsn = field_of sector 208 8;
  crc = little_field_of sector 216 4;
}

-- the first and the last active entry of the free list are two of its 119 entries, and unless there is none, the
-- entries from the first on to the last, around the end, are as many as there are active ones
abbrev pub has_free_list : Agf → Bool
has_free_list agf =
    nat_lt agf.flfirst 119 && nat_lt agf.fllast 119 && nat_le agf.flcount 119
    && (agf.flcount == 0 || (agf.fllast + 119 - agf.flfirst) % 119 + 1 == agf.flcount)

-- version 1, the length of the group, the levels and roots of the three trees, and the free list's bounds
abbrev pub is_agf_shaped : Volume → ℕ → Agf → Bool
is_agf_shaped v ag agf =
    agf.versionnum == 1
    && agf.length == group_length v ag
    && is_level agf.bnolevel
    && is_level agf.cntlevel
    && is_level agf.rmaplevel
    && is_root_block agf.bnoroot agf.length
    && is_root_block agf.cntroot agf.length
    && is_root_block agf.rmaproot agf.length
    && has_free_list agf

-- the header of a group's free space, where the sector is sealed as it and has its shape
unfoldable pub agf_of : Volume → ℕ → List ℕ → Option Agf
agf_of v ag sector = if is_sealed (head_seal Kind.Agf v ag) sector && is_agf_shaped v ag (stated_agf sector) then Some (stated_agf sector) else None
