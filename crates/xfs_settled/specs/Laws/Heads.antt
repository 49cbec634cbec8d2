-- Laws about the headers of groups. Each function does nothing; its contract is the law.
use Rattle.std.specs.Prelude.{◌≡◌, ℕ, List}
use Rattle.xfs_geom.specs.Volumes.{Volume}
use Rattle.xfs_geom.specs.Writing.{IsSuperOf}
use Rattle.xfs_geom.specs.declared.records.Counts.{Counts}
use Rattle.xfs_geom.specs.declared.records.InoRec.{InoRec}
use Rattle.xfs_place.specs.declared.placed.GroupPlaced.{GroupPlaced}
use Rattle.xfs_render.specs.HeaderBlocks.{IsHeaderBlock}
use Rattle.xfs_settled.specs.Sectors.{AreSized}

-- Of one superblock, with one set of counters, there is one that is written anew: no byte of it is left open.
abbrev pub SuperblocksAreOne : Type 0
SuperblocksAreOne = (base : List ℕ) (counts : Counts) (a b : List ℕ) → AreSized 512 a → AreSized 512 b → IsSuperOf base counts a → IsSuperOf base counts b → a ≡ b

-- With one superblock, of one old block and what is placed in one group, there is one block with the headers of the group.
abbrev pub HeaderBlocksAreOne : Type 0
HeaderBlocksAreOne = (v : Volume) (ag : ℕ) (super old : List ℕ) (inodes : List InoRec) (p : GroupPlaced) (a b : List ℕ) → AreSized 4096 a → AreSized 4096 b
    → IsHeaderBlock v ag super old inodes p a → IsHeaderBlock v ag super old inodes p b → a ≡ b
