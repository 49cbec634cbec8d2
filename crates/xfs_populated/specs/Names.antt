-- The names of a new volume with files, as they stand and as they read.
use Rattle.std.specs.Prelude.{◌≡◌, ℕ, true, ◌<◌, ◌≤◌, List, length}
use Rattle.xfs_disk.specs.Blocks.{Image}
use Rattle.xfs_word.specs.Field.{part_of}
use Rattle.xfs_dirbuild.specs.Forms.{data_blocks_of, form_of}
use Rattle.xfs_dirbuild.specs.declared.image.DirImage.{DirImage}
use Rattle.xfs_dirdata.specs.declared.records.EntryRec.{EntryRec}
use Rattle.xfs_geom.specs.Volumes.{Volume}
use Rattle.xfs_image.specs.Directories.{entries_of, is_whole, parent_of}
use Rattle.xfs_image.specs.Slots.{slot_bytes}
use Rattle.xfs_names.specs.Built.{IsImageIn}
use Rattle.xfs_disk.specs.declared.stamp.Stamp.{Stamp}
use Rattle.xfs_geom.specs.declared.records.Run.{Run}
use Rattle.xfs_render.specs.Slots.{IsMadeSlot}
use Rattle.xfs_volume.specs.declared.files.FileRec.{FileRec}
use Rattle.xfs_proto.specs.declared.protofile.ProtoNode.{ProtoNode}
use Rattle.xfs_filled.specs.Directories.{fresh_fork_bytes, short_in}
use Rattle.xfs_filled.specs.Entries.{entries_at, parent_of_place}
use Rattle.xfs_filled.specs.FileTrees.{is_directory_node}
use Rattle.xfs_filled.specs.Numbers.{number_of}
use Rattle.xfs_filled.specs.Slots.{slot_of_place}

-- the root has the first number, and the other files have theirs behind those of the two system inodes, in the order of their places
pub record HasFileNumbers (v : Volume) (starts : List ℕ) (files : ℕ) : Type 0 where
  pub root : number_of v starts 0 ≡ 128
  pub ascend : (i j : ℕ) → i < j → j < files → number_of v starts i < number_of v starts j
  pub behind : (k : ℕ) → 1 ≤ k → k < files → 131 ≤ number_of v starts k

-- the bytes of the short form of the directory at a place, where it has one
abbrev pub short_at : Volume → List ℕ → List ProtoNode → ℕ → List ℕ
short_at v starts ns k = short_in (form_of (entries_at v starts ns k) fresh_fork_bytes) (parent_of_place v starts ns k) (entries_at v starts ns k)

-- the slot of a file is what was wanted of it, whatever stood there before
pub record HasFileSlot (v : Volume) (s : Stamp) (starts : List ℕ) (ns : List ProtoNode) (contents : List (List ℕ)) (runs : List Run) (image : Image) (k : ℕ) : Type 0 where
  pub old : List ℕ
  pub made : IsMadeSlot v s.generation (slot_of_place v s starts ns contents runs k) old (slot_bytes v image (number_of v starts k))

-- so is that of each file
pub record HasFileSlots (v : Volume) (s : Stamp) (starts : List ℕ) (ns : List ProtoNode) (contents : List (List ℕ)) (runs : List Run) (image : Image) : Type 0 where
  pub each : (k : ℕ) → k < length ns → HasFileSlot v s starts ns contents runs image k

-- the slot of each directory without blocks has its short form
pub record HasShortForms (v : Volume) (starts : List ℕ) (ns : List ProtoNode) (image : Image) : Type 0 where
  pub each : (k : ℕ) → k < length ns → is_directory_node ns k ≡ true → data_blocks_of (form_of (entries_at v starts ns k) fresh_fork_bytes) (entries_at v starts ns k) ≡ 0
      → part_of (slot_bytes v image (number_of v starts k)) 176 (length (short_at v starts ns k)) ≡ short_at v starts ns k

-- a directory with these entries and this parent was built: its image has their short form, or their blocks, which read as them whatever
-- places and seals they get
pub record HasImage (entries : List EntryRec) (dir parent : ℕ) : Type 0 where
  pub image : DirImage
  pub is : IsImageIn (form_of entries fresh_fork_bytes) entries dir parent image

-- so was each directory of the protofile
pub record AreDirectoriesBuilt (v : Volume) (starts : List ℕ) (ns : List ProtoNode) : Type 0 where
  pub each : (k : ℕ) → k < length ns → is_directory_node ns k ≡ true → HasImage (entries_at v starts ns k) (number_of v starts k) (parent_of_place v starts ns k)

-- a directory reads as whole, with these entries, in their order, and this parent
pub record ReadsDirectory (v : Volume) (image : Image) (f : FileRec) (entries : List EntryRec) (parent : ℕ) : Type 0 where
  pub whole : is_whole v image f ≡ true
  pub entries' : entries_of v image f ≡ entries
  pub parent' : parent_of v image f ≡ parent
