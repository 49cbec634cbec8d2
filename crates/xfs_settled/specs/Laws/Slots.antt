-- Laws about the slots of inodes. Each function does nothing; its contract is the laws.
use Rattle.std.specs.Prelude.{◌≡◌, ℕ, ◌≤◌, List, length}
use Rattle.xfs_word.specs.Field.{field_of}
use Rattle.xfs_geom.specs.Volumes.{Volume}
use Rattle.xfs_volume.specs.declared.cores.Core.{Core}
use Rattle.xfs_inode.specs.Slots.{fork_bytes}
use Rattle.xfs_inodebuild.specs.declared.forks.ForkWanted.{ForkWanted}
use Rattle.xfs_render.specs.Clusters.{CanCluster, IsClusterBlock}
use Rattle.xfs_render.specs.Slots.{CanMake, DropsAttrs, IsFreeSlot, IsFreshSlot, IsMadeSlot, SetsFork, SetsLinks}
use Rattle.xfs_render.specs.declared.wanted_slots.SlotWanted.{SlotWanted}
use Rattle.xfs_settled.specs.Sectors.{AreSized}

-- There is one free slot of an inode and a generation, and one slot of a core whose data fork is empty.
abbrev pub MadeSlotsAreOneFree : Type 0
MadeSlotsAreOneFree = (v : Volume) (ino generation : ℕ) (a b : List ℕ) → AreSized 512 a → AreSized 512 b → IsFreeSlot v ino generation a → IsFreeSlot v ino generation b → a ≡ b

-- of the same, `fresh`
abbrev pub MadeSlotsAreOneFresh : Type 0
MadeSlotsAreOneFresh = (v : Volume) (core : Core) (a b : List ℕ) → AreSized 512 a → AreSized 512 b → IsFreshSlot v core a → IsFreshSlot v core b → a ≡ b

-- Of one old slot, whose attribute fork begins inside it, there is one without its attributes, one with a data fork that fits in front
-- of them, and one with a number of links.
abbrev pub ChangedSlotsAreOneAttrs : Type 0
ChangedSlotsAreOneAttrs = (v : Volume) (ino nblocks : ℕ) (old a b : List ℕ) → field_of old 82 1 ≤ 41 → AreSized 512 a → AreSized 512 b
    → DropsAttrs v ino nblocks old a → DropsAttrs v ino nblocks old b → a ≡ b

-- of the same, `fork`
abbrev pub ChangedSlotsAreOneFork : Type 0
ChangedSlotsAreOneFork = (v : Volume) (ino : ℕ) (fork : ForkWanted) (old a b : List ℕ) → field_of old 82 1 ≤ 41 → length fork.bytes ≤ fork_bytes (field_of old 82 1)
    → AreSized 512 a → AreSized 512 b → SetsFork v ino fork old a → SetsFork v ino fork old b → a ≡ b

-- of the same, `links`
abbrev pub ChangedSlotsAreOneLinks : Type 0
ChangedSlotsAreOneLinks = (v : Volume) (ino nlink : ℕ) (old a b : List ℕ) → AreSized 512 a → AreSized 512 b → SetsLinks v ino nlink old a → SetsLinks v ino nlink old b → a ≡ b

-- Of one old slot there is one that is what is wanted of it, change by change, whatever stood there on the way; and of one old block of
-- a cluster there is one whose slots are.
abbrev pub WantedSlotsAreOneSlot : Type 0
WantedSlotsAreOneSlot = (v : Volume) (generation : ℕ) (w : SlotWanted) (old a b : List ℕ) → CanMake v w old → AreSized 512 a → AreSized 512 b
    → IsMadeSlot v generation w old a → IsMadeSlot v generation w old b → a ≡ b

-- of the same, `block`
abbrev pub WantedSlotsAreOneBlock : Type 0
WantedSlotsAreOneBlock = (v : Volume) (generation : ℕ) (slots : List SlotWanted) (number : ℕ) (old a b : List ℕ) → CanCluster v slots number old → AreSized 4096 a → AreSized 4096 b
    → IsClusterBlock v generation slots number old a → IsClusterBlock v generation slots number old b → a ≡ b
