-- The groups of a catalog once everything of a volume is placed: what an image says that has what was placed (chapters "Allocation
-- Groups", "AG Free Space Management", "AG Inode Management" and "Reverse-Mapping B+tree").
use Rattle.std.specs.Prelude.{ℕ, List, map, slice_index_or}
use Rattle.std.specs.List.{range_with_len}
use Rattle.xfs_geom.specs.Volumes.{Volume}
use Rattle.xfs_geom.specs.declared.records.InoRec.{InoRec}
use Rattle.xfs_kinds.specs.FreeTrees.{bno_shape, cnt_shape}
use Rattle.xfs_kinds.specs.InodeTrees.{ino_shape, fino_shape}
use Rattle.xfs_kinds.specs.OwnerTrees.{rmap_shape}
use Rattle.xfs_volume.specs.declared.groups.GroupRec.{GroupRec}
use Rattle.xfs_place.specs.Wanted.{inodes_in_group}
use Rattle.xfs_place.specs.declared.placed.GroupPlaced.{GroupPlaced}
use Rattle.xfs_place.specs.declared.wanted.GroupInodes.{GroupInodes}
use Rattle.xfs_render.specs.Groups.{due_agf, due_agi, due_agfl, tree_places}
use Rattle.xfs_render.specs.Rendering.{no_group}
use Rattle.xfs_render.specs.Trees.{packed_tree}
use Rattle.xfs_image.specs.Groups.{group_record}

-- a group with what is placed in it, whose two headers are sealed with these checksums
abbrev pub due_group : Volume → ℕ → List InoRec → GroupPlaced → ℕ → ℕ → GroupRec
due_group v ag inodes p agf_crc agi_crc = group_record
    (record (due_agf v ag p) { crc = agf_crc })
    (record (due_agi v ag inodes p) { crc = agi_crc })
    (due_agfl p)
    (packed_tree (bno_shape ag) p.bno (tree_places p 0))
    (packed_tree (cnt_shape ag) p.cnt (tree_places p 1))
    (packed_tree (ino_shape ag) inodes (tree_places p 2))
    (packed_tree (fino_shape ag) p.fino (tree_places p 3))
    (packed_tree (rmap_shape ag) p.rmap (tree_places p 4))

-- all groups of a volume, with the checksums of the headers of each
abbrev pub due_group_at : Volume → List GroupInodes → List GroupPlaced → (ℕ → ℕ) → (ℕ → ℕ) → ℕ → GroupRec
due_group_at v inodes groups agf_crc agi_crc ag =
    due_group v ag (inodes_in_group inodes ag) (slice_index_or groups ag no_group) (agf_crc ag) (agi_crc ag)

abbrev pub due_groups : Volume → List GroupInodes → List GroupPlaced → (ℕ → ℕ) → (ℕ → ℕ) → List GroupRec
due_groups v inodes groups agf_crc agi_crc = map (due_group_at v inodes groups agf_crc agi_crc) (range_with_len 0 v.agcount)
