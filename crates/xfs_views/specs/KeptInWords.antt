-- What it means that a file is kept, field by field (chapter "On-disk Inode").
use Rattle.std.specs.Prelude.{◌≡◌, ℕ, ◌<◌}
use Rattle.xfs_disk.specs.Blocks.{Image}
use Rattle.xfs_geom.specs.Volumes.{Volume}
use Rattle.xfs_volume.specs.declared.cores.Core.{Core}
use Rattle.xfs_volume.specs.declared.files.FileRec.{FileRec}
use Rattle.xfs_image.specs.Keeping.{byte_over}

-- every field is equal but the number of names, the next of the unlinked inodes and the checksum
pub record HasSameFields (a b : Core) : Type 0 where
  pub magic : a.magic ≡ b.magic
  pub mode : a.mode ≡ b.mode
  pub version : a.version ≡ b.version
  pub format : a.format ≡ b.format
  pub uid : a.uid ≡ b.uid
  pub gid : a.gid ≡ b.gid
  pub projid_lo : a.projid_lo ≡ b.projid_lo
  pub projid_hi : a.projid_hi ≡ b.projid_hi
  pub atime : a.atime ≡ b.atime
  pub mtime : a.mtime ≡ b.mtime
  pub ctime : a.ctime ≡ b.ctime
  pub size : a.size ≡ b.size
  pub nblocks : a.nblocks ≡ b.nblocks
  pub extsize : a.extsize ≡ b.extsize
  pub nextents : a.nextents ≡ b.nextents
  pub anextents : a.anextents ≡ b.anextents
  pub forkoff : a.forkoff ≡ b.forkoff
  pub aformat : a.aformat ≡ b.aformat
  pub flags : a.flags ≡ b.flags
  pub generation : a.generation ≡ b.generation
  pub changecount : a.changecount ≡ b.changecount
  pub lsn : a.lsn ≡ b.lsn
  pub flags2 : a.flags2 ≡ b.flags2
  pub cowextsize : a.cowextsize ≡ b.cowextsize
  pub crtime : a.crtime ≡ b.crtime
  pub ino : a.ino ≡ b.ino
  pub uuid : a.uuid ≡ b.uuid

-- the file is the same in another image: each of its bytes, its attributes, target and device, and its core
pub record IsKeptAs (v : Volume) (before after : Image) (file kept : FileRec) : Type 0 where
  pub fields : HasSameFields kept.core file.core
  pub bytes : (i : ℕ) → i < file.core.size → byte_over v after kept.extents i ≡ byte_over v before file.extents i
  pub attrs : kept.rest.attrs ≡ file.rest.attrs
  pub target : kept.rest.target ≡ file.rest.target
  pub device : kept.rest.device ≡ file.rest.device
