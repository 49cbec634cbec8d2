-- The core of an inode: the first 176 bytes of its slot (chapter "On-disk Inode").
use Rattle.std.specs.Prelude.{List, ℕ}
use Rattle.xfs_word.specs.Crc.{little_field_of}
use Rattle.xfs_word.specs.Field.{field_of, part_of}
use Rattle.xfs_volume.specs.declared.cores.Core.{Core}

-- the values that a slot states
abbrev pub stated_core : List ℕ → Core
stated_core slot = record {
  magic = field_of slot 0 2;
  mode = field_of slot 2 2;
  version = field_of slot 4 1;
  format = field_of slot 5 1;
  uid = field_of slot 8 4;
  gid = field_of slot 12 4;
  nlink = field_of slot 16 4;
  projid_lo = field_of slot 20 2;
  projid_hi = field_of slot 22 2;
  atime = field_of slot 32 8;
  mtime = field_of slot 40 8;
  ctime = field_of slot 48 8;
  size = field_of slot 56 8;
  nblocks = field_of slot 64 8;
  extsize = field_of slot 72 4;
  nextents = field_of slot 76 4;
  anextents = field_of slot 80 2;
  forkoff = field_of slot 82 1;
  aformat = field_of slot 83 1;
  flags = field_of slot 90 2;
  generation = field_of slot 92 4;
  next_unlinked = field_of slot 96 4;
  crc = little_field_of slot 100 4;
  changecount = field_of slot 104 8;
  lsn = field_of slot 112 8;
  flags2 = field_of slot 120 8;
  cowextsize = field_of slot 128 4;
  crtime = field_of slot 144 8;
  ino = field_of slot 152 8;
  uuid = part_of slot 160 16;
}
