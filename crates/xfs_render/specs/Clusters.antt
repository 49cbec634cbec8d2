-- A block of a cluster of inodes: eight slots (chapter "AG Inode Management").
use Rattle.std.specs.Prelude.{◌≡◌, ℕ, ◌*◌, ◌<◌, List, length}
use Rattle.xfs_word.specs.Field.{part_of}
use Rattle.xfs_geom.specs.Conversions.{inode_of}
use Rattle.xfs_geom.specs.Volumes.{Volume}
use Rattle.xfs_render.specs.Slots.{CanSlot, IsSlotDue}
use Rattle.xfs_render.specs.declared.wanted_slots.SlotWanted.{SlotWanted}

-- one of the eight slots of a block
abbrev pub slot_in : List ℕ → ℕ → List ℕ
slot_in block k = part_of block (512 * k) 512

-- each slot of the block is what is wanted of it, or as it was
pub record IsClusterBlock (v : Volume) (generation : ℕ) (slots : List SlotWanted) (number : ℕ) (old block : List ℕ) : Type 0 where
  pub size : length block ≡ 4096
  pub each : (k : ℕ) → k < 8 → IsSlotDue v generation slots (inode_of v number k) (slot_in old k) (slot_in block k)

-- what is wanted of the slots of the block can be made of them
pub record CanCluster (v : Volume) (slots : List SlotWanted) (number : ℕ) (old : List ℕ) : Type 0 where
  pub each : (k : ℕ) → k < 8 → CanSlot v slots (inode_of v number k) (slot_in old k)
