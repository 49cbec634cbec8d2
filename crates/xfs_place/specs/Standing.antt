-- Which blocks the trees and the free list of a group stand on.
use Rattle.std.specs.Prelude.{◌≡◌, ℕ, true, ◌+◌, ◌*◌, ◌<◌, List, ◌++◌, length, map, slice_index_or}
use Rattle.std.specs.List.{All, AllPairs, flat_map}
use Rattle.xfs_geom.specs.Volumes.{Volume}
use Rattle.xfs_geom.specs.declared.records.InoRec.{InoRec}
use Rattle.xfs_geom.specs.declared.records.Run.{Run}
use Rattle.xfs_volume.specs.declared.groups.TreeBlocks.{TreeBlocks}
use Rattle.xfs_place.specs.declared.placed.GroupPlaced.{GroupPlaced}
use Rattle.xfs_place.specs.declared.wanted.GroupInodes.{GroupInodes}
use Rattle.xfs_place.specs.Placing.{tree_sizes}
use Rattle.xfs_place.specs.Pool.{is_pool}
use Rattle.xfs_place.specs.Wanted.{inodes_in_group}

-- the blocks of the trees and then those of the free list, by their numbers, of a group from block `base` on
abbrev pub standing_blocks : ℕ → GroupPlaced → List ℕ
standing_blocks base p = flat_map (λ (t : TreeBlocks). t.blocks) p.trees ++ map (λ block. base + block) p.agfl

-- they are blocks of the pool, and each is lower than those behind it; each tree has the blocks that its records need
pub record IsOfPool (v : Volume) (kept : List Run) (reserved : List ℕ) (base : ℕ) (inodes : List InoRec) (p : GroupPlaced) : Type 0 where
  pub pool : All (λ block. is_pool v kept reserved block ≡ true) (standing_blocks base p)
  pub ascend : AllPairs (λ x y. x < y) (standing_blocks base p)
  pub sizes : map (λ (t : TreeBlocks). length t.blocks) p.trees ≡ tree_sizes (length p.bno) (length inodes) (length p.fino) (length p.rmap)

-- the same of each group
pub record AreOfPool (v : Volume) (kept : List Run) (reserved : List ℕ) (inodes : List GroupInodes) (n : ℕ) (groups : List GroupPlaced) : Type 0 where
  pub each : (ag : ℕ) (d : GroupPlaced) → ag < n → IsOfPool v kept reserved (ag * v.agblocks) (inodes_in_group inodes ag) (slice_index_or groups ag d)
