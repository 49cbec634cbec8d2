-- The parts of what a slot states.
use Rattle.std.specs.Prelude.{ℕ, List}
use Rattle.xfs_volume.specs.declared.cores.Core.{Core}
use Rattle.xfs_inode.specs.declared.cores.Front.{Front}
use Rattle.xfs_inode.specs.declared.cores.Middle.{Middle}
use Rattle.xfs_inode.specs.declared.cores.Back.{Back}

abbrev pub front_of : Core → Front
front_of core = record {
  magic = core.magic;
  mode = core.mode;
  version = core.version;
  format = core.format;
  uid = core.uid;
  gid = core.gid;
  nlink = core.nlink;
  projid_lo = core.projid_lo;
  projid_hi = core.projid_hi;
}

abbrev pub middle_of : Core → Middle
middle_of core = record {
  atime = core.atime;
  mtime = core.mtime;
  ctime = core.ctime;
  size = core.size;
  nblocks = core.nblocks;
  extsize = core.extsize;
  nextents = core.nextents;
  anextents = core.anextents;
  forkoff = core.forkoff;
  aformat = core.aformat;
}

abbrev pub back_of : Core → Back
back_of core = record {
  flags = core.flags;
  generation = core.generation;
  next_unlinked = core.next_unlinked;
  crc = core.crc;
  changecount = core.changecount;
  lsn = core.lsn;
  flags2 = core.flags2;
  cowextsize = core.cowextsize;
  crtime = core.crtime;
  ino = core.ino;
}

abbrev pub joined_core : Front → Middle → Back → List ℕ → Core
joined_core front middle back uuid = record {
  magic = front.magic;
  mode = front.mode;
  version = front.version;
  format = front.format;
  uid = front.uid;
  gid = front.gid;
  nlink = front.nlink;
  projid_lo = front.projid_lo;
  projid_hi = front.projid_hi;
  atime = middle.atime;
  mtime = middle.mtime;
  ctime = middle.ctime;
  size = middle.size;
  nblocks = middle.nblocks;
  extsize = middle.extsize;
  nextents = middle.nextents;
  anextents = middle.anextents;
  forkoff = middle.forkoff;
  aformat = middle.aformat;
  flags = back.flags;
  generation = back.generation;
  next_unlinked = back.next_unlinked;
  crc = back.crc;
  changecount = back.changecount;
  lsn = back.lsn;
  flags2 = back.flags2;
  cowextsize = back.cowextsize;
  crtime = back.crtime;
  ino = back.ino;
  uuid = uuid;
}
