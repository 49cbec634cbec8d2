-- What the slots of a round's blocks read as with the blocks that they name (chapter "On-disk Inode").
use Rattle.std.specs.Prelude.{◌≡◌, ℕ, ◌<◌, List, [], IfOk, map, slice_index_or, Option, Some}
use Rattle.std.specs.List.{All, range_with_len}
use Rattle.xfs_disk.specs.Blocks.{Image}
use Rattle.xfs_geom.specs.Conversions.{inode_of}
use Rattle.xfs_geom.specs.Volumes.{Volume}
use Rattle.xfs_inode.specs.Named.{slot_reads}
use Rattle.xfs_inode.specs.Sound.{IsSound}
use Rattle.xfs_inode.specs.declared.files.FileRead.{FileRead}
use Rattle.xfs_rounds.specs.Facts.{fact_of}
use Rattle.xfs_rounds.specs.Judged.{AreListed, slot_of}
use Rattle.xfs_rounds.specs.declared.judging.SlotFile.{SlotFile}
use Rattle.xfs_rounds.specs.declared.judging.SlotFile.TheVariants as Files
use Rattle.xfs_rounds.specs.declared.judging.SlotPart.{SlotPart}
use Rattle.xfs_rounds.specs.declared.pieces.BlockParts.{BlockParts}

-- in the images of which this is told
module _ (v : Volume) (told : Image → Type 0) where
  -- what the slot of an inode reads as
  pub record IsReadFile (ino : ℕ) (slot : List ℕ) (file : FileRead) : Type 0 where
    pub read : (image : Image) → told image → file ≡ slot_reads v image ino slot
    pub sound : IsSound v ino file

  -- it is decided
  abbrev pub IsFileIn : ℕ → List ℕ → SlotFile → Type 0
  IsFileIn ino slot (Files.Decided file) = IsReadFile ino slot file
  IsFileIn ino slot (Files.Naming read) = ⊥
  IsFileIn ino slot (Files.Named number) = ⊥

  -- a slot of a block with these bytes
  pub record IsPartIn (block : ℕ) (bytes : List ℕ) (part : SlotPart) : Type 0 where
    pub few : part.slot < 8
    pub fact : part.fact ≡ fact_of v (inode_of v block part.slot) (slot_of bytes part.slot)
    pub file : IsFileIn (inode_of v block part.slot) (slot_of bytes part.slot) part.file

  -- each slot of the block, in order
  pub record ArePartsIn (block : ℕ) (bytes : List ℕ) (parts : List SlotPart) : Type 0 where
    pub inodes : map (λ (part : SlotPart). inode_of v block part.slot) parts ≡ map (inode_of v block) (range_with_len 0 8)
    pub each : All (IsPartIn block bytes) parts

  -- a block of a round, with the bytes that it has in the bank
  abbrev pub IsSettled : List (List ℕ) → BlockParts → Type 0
  IsSettled bank block = IfOk block.slots (λ parts. ArePartsIn block.place (slice_index_or bank block.at []) parts.items)

  -- the blocks of a round, in order
  pub record AreSettled (bank : List (List ℕ)) (round : List ℕ) (blocks : List BlockParts) : Type 0 where
    pub listed : AreListed round blocks
    pub each : All (IsSettled bank) blocks

-- in the image that a disk tells, where it tells one
abbrev pub IsTold : Option Image → Image → Type 0
IsTold held image = held ≡ Some image
