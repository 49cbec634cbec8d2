-- The files of an empty volume: its root and the two system inodes (chapter "On-disk Inode").
use Rattle.std.specs.Prelude.{ℕ, true, ◌+◌, ◌<◌, List, [], ◌∷◌}
use Rattle.xfs_word.specs.Crc.{little_field_of}
use Rattle.xfs_disk.specs.Blocks.{Image}
use Rattle.xfs_disk.specs.declared.stamp.Stamp.{Stamp}
use Rattle.xfs_geom.specs.Volumes.{Volume}
use Rattle.xfs_volume.specs.declared.cores.Core.{Core}
use Rattle.xfs_volume.specs.declared.directories.DirRec.{DirRec}
use Rattle.xfs_volume.specs.declared.files.FileRec.{FileRec}
use Rattle.xfs_volume.specs.Rest.{no_rest}
use Rattle.xfs_image.specs.Slots.{slot_bytes}
use Rattle.xfs_render.specs.Slots.{IsMadeSlot}
use Rattle.xfs_render.specs.declared.wanted_slots.SlotWanted.{SlotWanted}
use Rattle.xfs_empty.specs.Inodes.{IsFirstSlot, root_core, system_core}

-- a slot of an image is what was wanted of one of the first chunk, whatever stood there before
pub record HasFirstSlot (v : Volume) (s : Stamp) (image : Image) (ino : ℕ) : Type 0 where
  pub wanted : SlotWanted
  pub old : List ℕ
  pub first : IsFirstSlot v s ino wanted
  pub made : IsMadeSlot v s.generation wanted old (slot_bytes v image ino)

-- so are all 64
pub record HasFirstSlots (v : Volume) (s : Stamp) (image : Image) : Type 0 where
  pub each : (i : ℕ) → i < 64 → HasFirstSlot v s image (128 + i)

-- a file with this core, sealed with a checksum, that has no blocks
abbrev pub plain_file : Core → ℕ → FileRec
plain_file core crc = record {
  ino = core.ino;
  core = record core { crc = crc };
  extents = [];
  rest = no_rest;
}

-- the checksum of the slot of an inode
abbrev pub slot_crc : Volume → Image → ℕ → ℕ
slot_crc v image ino = little_field_of (slot_bytes v image ino) 100 4

-- the root and the two system inodes, with their checksums
abbrev pub first_files : Volume → Stamp → (ℕ → ℕ) → List FileRec
first_files v s crc =
    plain_file (root_core v s) (crc 128) ∷ plain_file (system_core v s 129) (crc 129) ∷ plain_file (system_core v s 130) (crc 130) ∷ []

-- the root is a whole directory, its own parent, without entries
abbrev pub first_dirs : List DirRec
first_dirs = record { ino = 128; parent = 128; whole = true } ∷ []
