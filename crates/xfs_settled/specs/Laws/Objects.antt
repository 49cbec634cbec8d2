-- A law about the blocks of directories, symbolic links and files. The function does nothing; its contract is the law.
use Rattle.std.specs.Prelude.{◌≡◌, ℕ, List}
use Rattle.xfs_geom.specs.Volumes.{Volume}
use Rattle.xfs_render.specs.Objects.{IsObjectBlock}
use Rattle.xfs_render.specs.declared.object_blocks.ObjectBlock.{ObjectBlock}
use Rattle.xfs_settled.specs.Sectors.{AreSized, CanBeSealed}

-- Of the bytes that were built for a block of an object there is one block at its place, where they have the magic number of what they
-- are sealed as.
abbrev pub ObjectBlocksAreOne : Type 0
ObjectBlocksAreOne = (v : Volume) (at : ObjectBlock) (built a b : List ℕ) → AreSized 4096 a → AreSized 4096 b → CanBeSealed at.kind built
    → IsObjectBlock v at built a → IsObjectBlock v at built b → a ≡ b
