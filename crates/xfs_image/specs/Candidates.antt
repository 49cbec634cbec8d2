-- The clusters whose slots are read: those that a tree of their group names, and those that are found by their bytes (chapter "AG
-- Inode Management").
use Rattle.std.specs.Prelude.{ℕ, Bool, not, ◌+◌, ◌*◌, ◌/◌, ◌%◌, ◌==◌, ◌&&◌, ◌||◌, nat_le, List, [], ◌∷◌, map, Option, Some, None, ◌≤◌}
use Rattle.std.specs.List.{filter, flat_map, list_all, list_any, range_with_len}
use Rattle.xfs_word.specs.Field.{field_of}
use Rattle.xfs_word.specs.Seal.{is_sealed}
use Rattle.xfs_word.specs.declared.kinds.Seal.{Seal}
use Rattle.xfs_word.specs.declared.kinds.SealKind.{SealKind}
use Rattle.xfs_word.specs.declared.kinds.SealKind.TheVariants as Kind
use Rattle.xfs_disk.specs.Blocks.{Image, bytes_of_block}
use Rattle.xfs_geom.specs.Conversions.{group_length, is_fixed}
use Rattle.xfs_geom.specs.Shape.{chunk_of}
use Rattle.xfs_geom.specs.Volumes.{Volume}
use Rattle.xfs_inode.specs.Slots.{slot_seal}
use Rattle.xfs_volume.specs.declared.clusters.ClusterRec.{ClusterRec}
use Rattle.xfs_image.specs.Groups.{head_block}
use Rattle.xfs_image.specs.Slots.{slot_bytes, cluster_blocks, cluster_inodes}
use Rattle.xfs_image.specs.Clusters.{is_recorded, is_trusted, places_in, root_cluster}

-- a slot is sealed for its inode and holds a file
abbrev pub is_used_slot : Volume → Image → ℕ → Bool
is_used_slot v image ino = is_sealed (slot_seal v ino) (slot_bytes v image ino) && not (field_of (slot_bytes v image ino) 2 2 == 0)

-- the cluster is found by its bytes: its group is not trusted, and a slot is sealed and holds a file
unfoldable pub is_scanned : Volume → Image → ℕ → Bool
is_scanned v image cluster =
    not (is_trusted v image (cluster / v.agblocks)) && list_any (is_used_slot v image) (cluster_inodes v cluster)

-- the kinds of objects that fill a block: blocks of the five trees of a group, of extent trees, of directories, of indexes of
-- names, of symbolic links
abbrev pub whole_kinds : List SealKind
whole_kinds =
    Kind.ShortTree 0x4142_3342 ∷ Kind.ShortTree 0x4142_3343 ∷ Kind.ShortTree 0x4941_4233 ∷ Kind.ShortTree 0x4649_4233 ∷ Kind.ShortTree 0x524d_4233
    ∷ Kind.LongTree ∷ Kind.DirData ∷ Kind.DirFree
    ∷ Kind.Index 0x3df1 ∷ Kind.Index 0x3dff ∷ Kind.Index 0x3ebe ∷ Kind.Index 0x3bee ∷ Kind.Symlink ∷ []

-- the owner that such a kind has: its group for a block of a group's tree, any inode for the others
abbrev pub owner_due : Volume → ℕ → SealKind → Option ℕ
owner_due v block (Kind.ShortTree magic) = Some (block / v.agblocks)
owner_due v block _ = None

abbrev pub whole_seal : Volume → ℕ → SealKind → Seal
whole_seal v block kind = record { kind = kind; place = 8 * block; owner = owner_due v block kind; uuid = v.uuid }

-- the block is sealed at its place as one object
unfoldable pub has_whole_seal : Volume → Image → ℕ → Bool
has_whole_seal v image block = list_any (λ kind. is_sealed (whole_seal v block kind) (bytes_of_block image block)) whole_kinds

-- the cluster lies in a chunk: the eight blocks from a multiple of eight on, behind the first eight of its group
abbrev pub lies_in_chunk : Volume → ℕ → Bool
lies_in_chunk v cluster =
    nat_le 8 (cluster % v.agblocks) && nat_le (chunk_of (cluster % v.agblocks) + 8) (group_length v (cluster / v.agblocks))

-- no block of it has a fixed use or is another object
abbrev pub can_hold_inodes : Volume → Image → ℕ → Bool
can_hold_inodes v image cluster =
    list_all (λ block. not (is_fixed v block || has_whole_seal v image block)) (cluster_blocks cluster)

-- the cluster is one whose slots are read
unfoldable pub is_candidate : Volume → Image → ℕ → Bool
is_candidate v image cluster =
    cluster == root_cluster v
    || ((is_recorded v image cluster || is_scanned v image cluster) && lies_in_chunk v cluster && can_hold_inodes v image cluster)

-- all that could be clusters of a volume, by their first blocks
abbrev pub possible_clusters : Volume → List ℕ
possible_clusters v = flat_map (λ ag. map (λ place. head_block v ag + place) (places_in v ag)) (range_with_len 0 v.agcount)

abbrev pub cluster_rec : Volume → Image → ℕ → ClusterRec
cluster_rec v image cluster = record { block = cluster; recorded = is_recorded v image cluster }

-- the clusters whose slots are read, by block, each with whether a tree names it
unfoldable pub candidates : Volume → Image → List ClusterRec
candidates v image = map (cluster_rec v image) (filter (is_candidate v image) (possible_clusters v))

-- the clusters ascend, and no two have a block in common; the first begins at a block or behind it
abbrev pub ClustersAscend : ℕ → List ClusterRec → Type 0
ClustersAscend low [] = Unit {0}
ClustersAscend low (c ∷ cs) = (low ≤ c.block) × ClustersAscend (c.block + 4) cs
