-- The inodes of an empty volume: 64 slots from 128 on, of which the first three are in use (chapter "On-disk Inode").
use Rattle.std.specs.Prelude.{◌≡◌, ℕ, ◌+◌, ◌*◌, ◌^◌, ◌≤◌, ◌<◌, ◌==◌, if◌then◌else◌, [], length, Some, None}
use Rattle.xfs_disk.specs.declared.stamp.Stamp.{Stamp}
use Rattle.xfs_dirdata.specs.Short.{short_of}
use Rattle.xfs_geom.specs.Volumes.{Volume}
use Rattle.xfs_render.specs.xfs_inodebuild.declared.forks.ForkWanted.{ForkWanted}
use Rattle.xfs_render.specs.declared.wanted_slots.SlotBase.TheVariants.{Free, Fresh}
use Rattle.xfs_render.specs.declared.wanted_slots.SlotWanted.{SlotWanted}
use Rattle.xfs_volume.specs.declared.cores.Core.{Core}

-- the time of a stamp: seconds above 32 bits of nanoseconds
abbrev pub time_of : Stamp → ℕ
time_of s = s.seconds * 2 ^ 32 + s.nanos

-- the core of a regular file without names and blocks that is made at a time, apart from its checksum
abbrev pub fresh_core : Volume → ℕ → ℕ → ℕ → ℕ → Core
fresh_core v time generation ino mode = record {
  magic = 0x494e;
  mode = mode;
  version = 3;
  format = 2;
  uid = 0;
  gid = 0;
  nlink = 1;
  projid_lo = 0;
  projid_hi = 0;
  atime = time;
  mtime = time;
  ctime = time;
  size = 0;
  nblocks = 0;
  extsize = 0;
  nextents = 0;
  anextents = 0;
  forkoff = 0;
  aformat = 2;
  flags = 0;
  generation = generation;
  next_unlinked = 0xffff_ffff;
  crc = 0;
  changecount = 0;
  lsn = 0;
  flags2 = 0;
  cowextsize = 0;
  crtime = time;
  ino = ino;
  uuid = v.uuid;
}

-- the root: a directory with permissions 0755, in short form of six bytes
abbrev pub root_core : Volume → Stamp → Core
root_core v s = record (fresh_core v (time_of s) s.generation 128 0x41ed) { format = 1; nlink = 2; size = 6 }

-- the inodes of the realtime bitmap and of its summary: regular files without permissions; the former has a flag that says that it is new
abbrev pub system_core : Volume → Stamp → ℕ → Core
system_core v s ino = record (fresh_core v (time_of s) s.generation ino 0x8000) { flags = if ino == 129 then 4 else 0 }

-- six bytes of a short form without entries, whose parent is the root
pub record IsRootFork (f : ForkWanted) : Type 0 where
  pub format : f.format ≡ 1
  pub size : f.size ≡ 6
  pub nblocks : f.nblocks ≡ 0
  pub nextents : f.nextents ≡ 0
  pub bytes : length f.bytes ≡ 6
  pub form : (dir : ℕ) → short_of dir f.bytes ≡ Some (record { parent = 128; entries = [] })

-- what is wanted of the slot of the root
pub record IsRootSlot (v : Volume) (s : Stamp) (w : SlotWanted) : Type 0 where
  pub fork : ForkWanted
  pub is : w ≡ record { ino = 128; base = Fresh (root_core v s); drop_attrs = None; fork = Some fork; nlink = None }
  pub root : IsRootFork fork

abbrev pub system_slot : Volume → Stamp → ℕ → SlotWanted
system_slot v s ino = record { ino = ino; base = Fresh (system_core v s ino); drop_attrs = None; fork = None; nlink = None }

abbrev pub unused_slot : ℕ → SlotWanted
unused_slot ino = record { ino = ino; base = Free; drop_attrs = None; fork = None; nlink = None }

-- what is wanted of a slot of the first chunk
pub record IsFirstSlot (v : Volume) (s : Stamp) (ino : ℕ) (w : SlotWanted) : Type 0 where
  pub number : w.ino ≡ ino
  pub root : ino ≡ 128 → IsRootSlot v s w
  pub system : 129 ≤ ino → ino < 131 → w ≡ system_slot v s ino
  pub free : 131 ≤ ino → w ≡ unused_slot ino
