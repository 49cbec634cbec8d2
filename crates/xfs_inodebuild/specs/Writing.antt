-- What is written into the slot of an inode (chapter "On-disk Inode").
use Rattle.std.specs.Prelude.{◌≡◌, ℕ, List, [], ◌∷◌}
use Rattle.xfs_word.specs.Field.{field_of, part_of, Beside}
use Rattle.xfs_word.specs.declared.kinds.FieldPlace.{FieldPlace}
use Rattle.xfs_geom.specs.Volumes.{Volume}
use Rattle.xfs_volume.specs.declared.cores.Core.{Core}

-- the width many bytes from an offset on
abbrev pub field_place : ℕ → ℕ → FieldPlace
field_place offset width = record { offset = offset; width = width }

-- the w bytes from a on lie beside each of these places
abbrev pub IsBesideEach : List FieldPlace → ℕ → ℕ → Type 0
IsBesideEach [] a w = Unit {0}
IsBesideEach (place ∷ places) a w = Beside place.offset place.width a w × IsBesideEach places a w

-- each number and each part beside these places is as before
abbrev pub KeepsOthers : List ℕ → List ℕ → List FieldPlace → Type 0
KeepsOthers old new places =
    (a w : ℕ) → IsBesideEach places a w → (field_of new a w ≡ field_of old a w) × (part_of new a w ≡ part_of old a w)

-- the core of a slot that is free, apart from its checksum
abbrev pub free_core : Volume → ℕ → ℕ → Core
free_core v ino generation = record {
  magic = 0x494e;
  mode = 0;
  version = 3;
  format = 0;
  uid = 0;
  gid = 0;
  nlink = 0;
  projid_lo = 0;
  projid_hi = 0;
  atime = 0;
  mtime = 0;
  ctime = 0;
  size = 0;
  nblocks = 0;
  extsize = 0;
  nextents = 0;
  anextents = 0;
  forkoff = 0;
  aformat = 0;
  flags = 0;
  generation = generation;
  next_unlinked = 0xffff_ffff;
  crc = 0;
  changecount = 0;
  lsn = 0;
  flags2 = 0;
  cowextsize = 0;
  crtime = 0;
  ino = ino;
  uuid = v.uuid;
}
