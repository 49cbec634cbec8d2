-- The counters of a volume once all is placed (chapter "Superblocks").
use Rattle.std.specs.Prelude.{ℕ, ◌+◌, ◌-◌, List, [], length, map, slice_index_or}
use Rattle.std.specs.List.{sum}
use Rattle.xfs_geom.specs.Sums.{free_blocks, slots, free_slots}
use Rattle.xfs_geom.specs.declared.records.Counts.{Counts}
use Rattle.xfs_volume.specs.declared.groups.TreeBlocks.{TreeBlocks}
use Rattle.xfs_place.specs.declared.placed.GroupPlaced.{GroupPlaced}
use Rattle.xfs_place.specs.declared.wanted.GroupInodes.{GroupInodes}

-- the blocks of one of the trees, by its place among them
abbrev pub tree_block_count : List TreeBlocks → ℕ → ℕ
tree_block_count trees tree = length (slice_index_or trees tree (record { blocks = [] })).blocks

-- the blocks of the trees by start, by length and by owner, but for one each
abbrev pub spare_blocks : List TreeBlocks → ℕ
spare_blocks trees = tree_block_count trees 0 + tree_block_count trees 1 + tree_block_count trees 4 - 3

-- the free blocks of a group, those of its free list and those that its trees could spare
abbrev pub room_placed : GroupPlaced → ℕ
room_placed p = free_blocks p.bno + length p.agfl + spare_blocks p.trees

abbrev pub placed_counts : List GroupInodes → List GroupPlaced → Counts
placed_counts inodes groups = record {
  icount = sum (map (λ (g : GroupInodes). slots g.records) inodes);
  ifree = sum (map (λ (g : GroupInodes). free_slots g.records) inodes);
  fdblocks = sum (map room_placed groups);
}
