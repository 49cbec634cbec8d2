-- Laws about the blocks of trees. Each function does nothing; its contract is the law.
use Rattle.std.specs.Prelude.{◌≡◌, ℕ, ◌<◌, List, length, map}
use Rattle.std.specs.List.{All}
use Rattle.xfs_disk.specs.Blocks.{Image, IsImage, bytes_of_block}
use Rattle.xfs_geom.specs.Volumes.{Volume}
use Rattle.xfs_geom.specs.declared.records.InoRec.{InoRec}
use Rattle.xfs_empty.specs.Planning.{StandsFor}
use Rattle.xfs_place.specs.Placing.{tree_sizes}
use Rattle.xfs_place.specs.declared.placed.GroupPlaced.{GroupPlaced}
use Rattle.xfs_place.specs.declared.placed.Placed.{Placed}
use Rattle.xfs_place.specs.declared.wanted.Wanted.{Wanted}
use Rattle.xfs_render.specs.Rendering.{group_placed, tree_blocks, volume, wanted_inodes}
use Rattle.xfs_render.specs.Trees.{HasTrees, group_tree_places}
use Rattle.xfs_volume.specs.declared.groups.TreeBlocks.{TreeBlocks}

-- Two images of one size that have the trees of a group as they are placed, each on as many blocks as its records need, have the same
-- bytes in each block of these trees.
abbrev pub GroupTreesAreOne : Type 0
GroupTreesAreOne = (v : Volume) (ag blocks : ℕ) (inodes : List InoRec) (p : GroupPlaced) (a b : Image) → IsImage blocks a → IsImage blocks b
    → map (λ (t : TreeBlocks). length t.blocks) p.trees ≡ tree_sizes (length p.bno) (length inodes) (length p.fino) (length p.rmap) → length p.cnt ≡ length p.bno
    → HasTrees v a ag inodes p → HasTrees v b ag inodes p → All (λ k. bytes_of_block a k ≡ bytes_of_block b k) (group_tree_places p)

-- And where they have the trees of all groups that are placed for a request, in each block of any tree.
abbrev pub TreeBlocksAreOne : Type 0
TreeBlocksAreOne = (w : Wanted) (p : Placed) (blocks : ℕ) (a b : Image) → StandsFor w p → IsImage blocks a → IsImage blocks b
    → ((ag : ℕ) → ag < w.geometry.agcount → HasTrees (volume w) a ag (wanted_inodes w ag) (group_placed p ag))
    → ((ag : ℕ) → ag < w.geometry.agcount → HasTrees (volume w) b ag (wanted_inodes w ag) (group_placed p ag))
    → All (λ k. bytes_of_block a k ≡ bytes_of_block b k) (tree_blocks p)
