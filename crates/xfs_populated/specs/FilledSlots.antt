-- What the slots of a new volume with files are made of, and what they read as (chapter "On-disk Inode").
use Rattle.std.specs.Prelude.{◌≡◌, ℕ, ◌+◌, ◌*◌, ◌≤◌, ◌<◌, List, length}
use Rattle.xfs_disk.specs.Blocks.{Image}
use Rattle.xfs_disk.specs.declared.stamp.Stamp.{Stamp}
use Rattle.xfs_geom.specs.Volumes.{Volume}
use Rattle.xfs_geom.specs.declared.records.Run.{Run}
use Rattle.xfs_inode.specs.declared.files.FileRead.TheVariants as Reads
use Rattle.xfs_image.specs.Slots.{reads_as, slot_bytes}
use Rattle.xfs_render.specs.Slots.{IsMadeSlot}
use Rattle.xfs_empty.specs.Inodes.{system_core}
use Rattle.xfs_made.specs.Files.{plain_file, slot_crc}
use Rattle.xfs_proto.specs.declared.protofile.ProtoNode.{ProtoNode}
use Rattle.xfs_filled.specs.Numbers.{inode_at, number_of}
use Rattle.xfs_filled.specs.Slots.{slot_of_index}
use Rattle.xfs_populated.specs.Populated.{filled_file}

module _ (v : Volume) (s : Stamp) (starts : List ℕ) (ns : List ProtoNode) (contents : List (List ℕ)) (runs : List Run) (image : Image) where
  -- slot j of all chunks is what was wanted of it, whatever stood there before
  pub record HasFilledSlot (j : ℕ) : Type 0 where
    pub old : List ℕ
    pub made : IsMadeSlot v s.generation (slot_of_index v s starts ns contents runs j) old (slot_bytes v image (inode_at v starts j))

  -- so are all slots
  pub record HasFilledSlots : Type 0 where
    pub each : (j : ℕ) → j < 64 * length starts → HasFilledSlot j

  -- the slots of files read as these are due, those of the two system inodes as regular files without blocks, and all others as free
  pub record ReadAsDue : Type 0 where
    pub files' : (k : ℕ) → k < length ns → reads_as v image (number_of v starts k) ≡ Reads.File (filled_file v s starts ns contents runs (slot_crc v image) k)
    pub system : (j : ℕ) → 1 ≤ j → j < 3
        → reads_as v image (inode_at v starts j) ≡ Reads.File (plain_file (system_core v s (inode_at v starts j)) (slot_crc v image (inode_at v starts j)))
    pub free : (j : ℕ) → length ns + 2 ≤ j → j < 64 * length starts → reads_as v image (inode_at v starts j) ≡ Reads.Free
