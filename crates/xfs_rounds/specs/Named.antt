-- The slots of a round that name other blocks, and these blocks as they were read (chapter "On-disk Inode").
use Rattle.std.specs.Prelude.{◌≡◌, ℕ, ◌<◌, List, [], ◌∷◌, ◌++◌, IfOk, length, map, slice_get, slice_index_or, Option, Some, None, Result}
use Rattle.std.specs.List.{All, range_with_len}
use Rattle.xfs_collections.specs.Bank.{blocks_at}
use Rattle.xfs_disk.specs.Blocks.{Image}
use Rattle.xfs_forest.specs.Forest.{contents_of}
use Rattle.xfs_forest.specs.declared.plants.Plant.{Plant}
use Rattle.xfs_geom.specs.Conversions.{inode_of}
use Rattle.xfs_geom.specs.Volumes.{Volume}
use Rattle.xfs_inode.specs.Named.{IsTopNamed, held_by, named_attr, named_link, named_top, tree_below}
use Rattle.xfs_inode.specs.Slots.{slot_read}
use Rattle.xfs_kinds.specs.declared.file_trees.Bmbt.{Bmbt}
use Rattle.xfs_rounds.specs.Facts.{fact_of}
use Rattle.xfs_rounds.specs.Judged.{IsDecided, IsInBank, IsKnown, slot_of}
use Rattle.xfs_rounds.specs.declared.judging.SlotFile.{SlotFile}
use Rattle.xfs_rounds.specs.declared.judging.SlotFile.TheVariants as Files
use Rattle.xfs_rounds.specs.declared.judging.SlotPart.{SlotPart}
use Rattle.xfs_rounds.specs.declared.pieces.BlockParts.{BlockParts}
use Rattle.xfs_rounds.specs.Settled.{IsSettled}
use Rattle.xfs_rounds.specs.declared.named.NamedSlots.{NamedSlots}
use Rattle.xfs_rounds.specs.declared.named.NamingSlot.{NamingSlot}
use Rattle.xfs_rounds.specs.declared.settling.FoundBlocks.{FoundBlocks}
use Rattle.xfs_tree.specs.Reading.{Contents}
use Rattle.xfs_tree.specs.Seats.{seats_of}
use Rattle.xfs_tree.specs.declared.frontier.Frontier.{Frontier}
use Rattle.xfs_tree.specs.declared.seats.Seat.{Seat}
use Rattle.xfs_tree.specs.declared.tree.Tree.{Tree}
use Rattle.xfs_tree.specs.declared.unread.Unread.{Unread}
use Rattle.xfs_word.specs.declared.extents.Extent.{Extent}

-- a block that is named stands in a list, where its place says
abbrev pub StandsAt : List ℕ → Option ℕ → Option ℕ → Type 0
StandsAt blocks None at = at ≡ None
StandsAt blocks (Some block) None = ⊥
StandsAt blocks (Some block) (Some at) = (at < length blocks) × (slice_index_or blocks at 0 ≡ block)

module _ (v : Volume) where
  -- a slot of an inode, and the blocks that it names, which stand in these lists
  pub record IsNaming (leaves links : List ℕ) (ino : ℕ) (bytes : List ℕ) (slot : NamingSlot) : Type 0 where
    pub inode : slot.ino ≡ ino
    pub read : slot.read ≡ slot_read v ino bytes
    pub top : IsTopNamed (named_top v ino bytes) slot.needs.top
    pub attr_leaf : slot.needs.attr_leaf ≡ named_attr v ino bytes
    pub link : slot.needs.link ≡ named_link v ino bytes
    pub leaf_at : StandsAt leaves slot.needs.attr_leaf slot.leaf_at
    pub link_at : StandsAt links slot.needs.link slot.link_at

  -- what a slot reads as is decided, or it is one of those that name other blocks
  abbrev pub IsNamedFile : NamedSlots → ℕ → List ℕ → SlotFile → Type 0
  IsNamedFile named ino bytes (Files.Decided file) = IsDecided v ino bytes file
  IsNamedFile named ino bytes (Files.Naming read) = ⊥
  IsNamedFile named ino bytes (Files.Named number) =
      (number < length named.slots.items) × ((d : NamingSlot) → IsNaming named.leaves.items named.links.items ino bytes (slice_index_or named.slots.items number d))

  pub record IsNamedPart (named : NamedSlots) (block : ℕ) (bytes : List ℕ) (part : SlotPart) : Type 0 where
    pub few : part.slot < 8
    pub fact : part.fact ≡ fact_of v (inode_of v block part.slot) (slot_of bytes part.slot)
    pub file : IsNamedFile named (inode_of v block part.slot) (slot_of bytes part.slot) part.file

  pub record AreNamedParts (named : NamedSlots) (block : ℕ) (bytes : List ℕ) (parts : List SlotPart) : Type 0 where
    pub inodes : map (λ (part : SlotPart). inode_of v block part.slot) parts ≡ map (inode_of v block) (range_with_len 0 8)
    pub each : All (IsNamedPart named block bytes) parts

  -- a block whose slots were gone through
  abbrev pub IsNamed : NamedSlots → List (List ℕ) → BlockParts → Type 0
  IsNamed named bank block = IfOk block.slots (λ parts. AreNamedParts named block.place (slice_index_or bank block.at []) parts.items)

-- the lists grew
pub record IsMore (old new : NamedSlots) : Type 0 where
  pub slots : List NamingSlot
  pub leaves : List ℕ
  pub links : List ℕ
  pub slots_are : new.slots.items ≡ old.slots.items ++ slots
  pub leaves_are : new.leaves.items ≡ old.leaves.items ++ leaves
  pub links_are : new.links.items ≡ old.links.items ++ links

-- a block stays where it was
pub record IsInPlace (old new : BlockParts) : Type 0 where
  pub place : new.place ≡ old.place
  pub at : new.at ≡ old.at

-- a block of the volume that was judged by itself, and one whose slots were gone through
pub record IsAtHand (v : Volume) (end : ℕ) (bank : List (List ℕ)) (block : BlockParts) : Type 0 where
  pub placed : IsInBank end (length bank) block
  pub known : IsKnown v bank block

pub record IsNumbered (v : Volume) (end : ℕ) (named : NamedSlots) (bank : List (List ℕ)) (block : BlockParts) : Type 0 where
  pub placed : IsInBank end (length bank) block
  pub slots : IsNamed v named bank block

-- a block as a list of one or none
abbrev pub listed : Option ℕ → List ℕ
listed None = []
listed (Some block) = block ∷ []

-- the blocks that are to be read lie in the volume
pub record AreWithin (end : ℕ) (named : NamedSlots) : Type 0 where
  pub leaves : All (λ block. block < end) named.leaves.items
  pub links : All (λ block. block < end) named.links.items

-- what is to be read of the tree of a slot: one without a tree gets one of no block
abbrev pub tops_of : Option (Frontier Bmbt Extent ℕ) → List (Seat ℕ)
tops_of None = []
tops_of (Some top) = seats_of top.places.items top.lows.items top.highs.items

abbrev pub height_of : Option (Frontier Bmbt Extent ℕ) → ℕ
height_of None = 0
height_of (Some top) = top.level

pub record IsPlantOf (slot : NamingSlot) (plant : Plant Bmbt Extent ℕ) : Type 0 where
  pub ino : plant.kind.ino ≡ slot.ino
  pub tops : plant.tops.items ≡ tops_of slot.needs.top
  pub height : plant.height ≡ height_of slot.needs.top

pub record IsPlanted (slot : NamingSlot) (old new : List (Plant Bmbt Extent ℕ)) : Type 0 where
  pub plant : Plant Bmbt Extent ℕ
  pub is : IsPlantOf slot plant
  pub more : new ≡ old ++ plant ∷ []

pub record ArePlantsOf (slots : List NamingSlot) (count : ℕ) (plants : List (Plant Bmbt Extent ℕ)) : Type 0 where
  pub long : length plants ≡ count
  pub each : (i : ℕ) (slot : NamingSlot) (plant : Plant Bmbt Extent ℕ) → i < count → IsPlantOf (slice_index_or slots i slot) (slice_index_or plants i plant)

-- the tree of a slot, where it has one that reads
abbrev pub tree_found : Option (Frontier Bmbt Extent ℕ) → Option (Result (Tree Bmbt Extent ℕ) Unread) → Option (Contents Extent)
tree_found None read = None
tree_found (Some top) None = None
tree_found (Some top) (Some read) = held_by (contents_of read)

-- the trees of slots, as an image has them
abbrev pub AreTreesOf : Volume → Image → List NamingSlot → List (Result (Tree Bmbt Extent ℕ) Unread) → Type 0
AreTreesOf v image slots trees = (i : ℕ) (slot : NamingSlot) → i < length slots
    → tree_found (slice_index_or slots i slot).needs.top (slice_get trees i)
    ≡ tree_below v image (slice_index_or slots i slot).ino (slice_index_or slots i slot).needs.top

-- the blocks that slots name, as an image has them
pub record AreFoundIn (v : Volume) (named : NamedSlots) (found : FoundBlocks) (image : Image) : Type 0 where
  pub trees : AreTreesOf v image named.slots.items found.trees.items
  pub leaves : found.leaves ≡ blocks_at image named.leaves.items
  pub links : found.links ≡ blocks_at image named.links.items

-- what is read of them, whatever an image has
pub record AreFound (named : NamedSlots) (found : FoundBlocks) : Type 0 where
  pub leaves : length found.leaves ≡ length named.leaves.items
  pub links : length found.links ≡ length named.links.items

-- a block whose slots were settled, and which stays where it was
pub record IsDone (v : Volume) (told : Image → Type 0) (bank : List (List ℕ)) (old new : BlockParts) : Type 0 where
  pub place : new.place ≡ old.place
  pub at : new.at ≡ old.at
  pub settled : IsSettled v told bank new
