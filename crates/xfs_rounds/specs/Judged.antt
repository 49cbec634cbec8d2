-- What is known of the slots of a round's blocks from their bytes alone (chapter "On-disk Inode").
use Rattle.std.specs.Prelude.{◌≡◌, ℕ, ◌*◌, ◌<◌, List, [], IfOk, length, map, take, slice_index_or}
use Rattle.std.specs.List.{All, range_with_len}
use Rattle.xfs_word.specs.Field.{part_of}
use Rattle.xfs_disk.specs.Blocks.{Image}
use Rattle.xfs_geom.specs.Conversions.{inode_of}
use Rattle.xfs_geom.specs.Volumes.{Volume}
use Rattle.xfs_inode.specs.Named.{slot_reads}
use Rattle.xfs_inode.specs.Slots.{slot_read}
use Rattle.xfs_inode.specs.Sound.{IsSound}
use Rattle.xfs_inode.specs.declared.files.FileRead.{FileRead}
use Rattle.xfs_rounds.specs.Facts.{fact_of}
use Rattle.xfs_rounds.specs.declared.judging.SlotFile.{SlotFile}
use Rattle.xfs_rounds.specs.declared.judging.SlotFile.TheVariants as Files
use Rattle.xfs_rounds.specs.declared.pieces.BlockParts.{BlockParts}
use Rattle.xfs_rounds.specs.declared.judging.SlotPart.{SlotPart}

-- the bytes of a slot of a block
abbrev pub slot_of : List ℕ → ℕ → List ℕ
slot_of bytes slot = part_of bytes (512 * slot) 512

-- a slot reads so in every image
pub record IsDecided (v : Volume) (ino : ℕ) (slot : List ℕ) (file : FileRead) : Type 0 where
  pub always : (image : Image) → file ≡ slot_reads v image ino slot
  pub sound : IsSound v ino file

-- what the bytes of a slot alone say of what it reads as
abbrev pub IsFileOf : Volume → ℕ → List ℕ → SlotFile → Type 0
IsFileOf v ino slot (Files.Decided file) = IsDecided v ino slot file
IsFileOf v ino slot (Files.Naming read) = read ≡ slot_read v ino slot
IsFileOf v ino slot (Files.Named number) = ⊥

-- what is known of a slot of a block with these bytes
pub record IsPartOf (v : Volume) (block : ℕ) (bytes : List ℕ) (part : SlotPart) : Type 0 where
  pub few : part.slot < 8
  pub fact : part.fact ≡ fact_of v (inode_of v block part.slot) (slot_of bytes part.slot)
  pub file : IsFileOf v (inode_of v block part.slot) (slot_of bytes part.slot) part.file

-- of the first slots of a block, in order
pub record ArePartsBelow (v : Volume) (block : ℕ) (bytes : List ℕ) (count : ℕ) (parts : List SlotPart) : Type 0 where
  pub inodes : map (λ (part : SlotPart). inode_of v block part.slot) parts ≡ map (inode_of v block) (range_with_len 0 count)
  pub each : All (IsPartOf v block bytes) parts

-- of each slot of a block, in order
abbrev pub ArePartsOf : Volume → ℕ → List ℕ → List SlotPart → Type 0
ArePartsOf v block bytes parts = ArePartsBelow v block bytes 8 parts

-- a block of the volume, whose bytes stand in a bank of so many blocks
pub record IsInBank (end size : ℕ) (block : BlockParts) : Type 0 where
  pub volume : block.place < end
  pub bank : block.at < size

-- a block of a round stands at its place in it
pub record IsListed (round : List ℕ) (block : BlockParts) : Type 0 where
  pub inside : block.at < length round
  pub place : block.place ≡ slice_index_or round block.at 0

-- the first blocks of a round, in order
pub record AreListedBelow (round : List ℕ) (count : ℕ) (blocks : List BlockParts) : Type 0 where
  pub places : map (λ (block : BlockParts). block.place) blocks ≡ take count round
  pub each : All (IsListed round) blocks

-- all of them
pub record AreListed (round : List ℕ) (blocks : List BlockParts) : Type 0 where
  pub places : map (λ (block : BlockParts). block.place) blocks ≡ round
  pub each : All (IsListed round) blocks

-- what is known of its slots is so by the bytes that it has in the bank
abbrev pub IsKnown : Volume → List (List ℕ) → BlockParts → Type 0
IsKnown v bank block = IfOk block.slots (λ parts. ArePartsOf v block.place (slice_index_or bank block.at []) parts.items)

-- a block was judged
pub record IsJudged (v : Volume) (bank : List (List ℕ)) (old new : BlockParts) : Type 0 where
  pub place : new.place ≡ old.place
  pub at : new.at ≡ old.at
  pub known : IsKnown v bank new

-- the blocks of a round were judged, in order
pub record AreJudged (v : Volume) (bank : List (List ℕ)) (round : List ℕ) (blocks : List BlockParts) : Type 0 where
  pub listed : AreListed round blocks
  pub each : All (IsKnown v bank) blocks
