-- Whether what is wanted of slots can be made of the bytes that stand there: a slot that stays, but for some of its fields, is sealed.
use Rattle.std.specs.Prelude.{◌≡◌, ℕ, ◌<◌, Bool, true, false, ◌^◌, ◌&&◌, nat_le, nat_lt, List, [], length, slice_index_or, Option, Some, None}
use Rattle.xfs_word.specs.Field.{field_of}
use Rattle.xfs_word.specs.Seal.{is_sealed}
use Rattle.xfs_disk.specs.Blocks.{Image}
use Rattle.xfs_geom.specs.Conversions.{inode_of}
use Rattle.xfs_geom.specs.Volumes.{Volume}
use Rattle.xfs_inode.specs.Slots.{fork_bytes, slot_seal}
use Rattle.xfs_inodebuild.specs.declared.forks.ForkWanted.{ForkWanted}
use Rattle.xfs_render.specs.Clusters.{slot_in}
use Rattle.xfs_render.specs.Rendering.{is_head}
use Rattle.xfs_render.specs.Slots.{forkoff_of, wanted_of}
use Rattle.xfs_render.specs.declared.wanted_slots.SlotBase.{SlotBase}
use Rattle.xfs_render.specs.declared.wanted_slots.SlotBase.TheVariants as Base
use Rattle.xfs_render.specs.declared.wanted_slots.SlotWanted.{SlotWanted}

-- a slot is sealed as that of its inode, and its attribute fork begins inside it
abbrev pub is_whole_slot : Volume → ℕ → List ℕ → Bool
is_whole_slot v ino slot = is_sealed (slot_seal v ino) slot && nat_le (field_of slot 82 1) 41

abbrev pub can_base : Volume → ℕ → SlotBase → List ℕ → Bool
can_base v ino Base.Kept slot = is_whole_slot v ino slot
can_base v ino Base.Free slot = true
can_base v ino (Base.Fresh core) slot = true

-- a fork that is wanted fits the bytes in front of the attribute fork
abbrev pub can_fork : ℕ → Option ForkWanted → Bool
can_fork forkoff None = true
can_fork forkoff (Some fork) = nat_lt fork.nextents (2 ^ 32) && nat_le (length fork.bytes) (fork_bytes forkoff)

abbrev pub can_make : Volume → List ℕ → Option SlotWanted → Bool
can_make v slot None = true
can_make v slot (Some w) = can_base v w.ino w.base slot && can_fork (forkoff_of w.base slot) w.fork

-- what is wanted of the slot of an inode, where something is, can be made of these bytes
abbrev pub can_change : Volume → List SlotWanted → ℕ → List ℕ → Bool
can_change v slots ino slot = can_make v slot (wanted_of slots ino)

-- the same of the eight slots of a block, and of the blocks of some places, but those where a group begins
pub record CanChange (v : Volume) (slots : List SlotWanted) (number : ℕ) (block : List ℕ) : Type 0 where
  pub each : (k : ℕ) → k < 8 → can_change v slots (inode_of v number k) (slot_in block k) ≡ true

pub record CanChangeAll (v : Volume) (slots : List SlotWanted) (places : List ℕ) (old : Image) : Type 0 where
  pub all : (i : ℕ) → i < length places → is_head v (slice_index_or places i 0) ≡ false → CanChange v slots (slice_index_or places i 0) (slice_index_or old i [])
