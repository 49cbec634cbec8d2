-- The clusters of inodes that an image has, as its trees name them or as they are found by their bytes (chapter "AG Inode
-- Management"). A cluster is four blocks, given by the first of them, with 32 slots.
use Rattle.std.specs.Prelude.{ℕ, Bool, false, ◌+◌, ◌*◌, ◌/◌, ◌==◌, ◌&&◌, ◌||◌, nat_le, nat_lt, if◌then◌else◌, List, [], ◌∷◌, ◌++◌, map, Option, Some, None}
use Rattle.std.specs.List.{filter, flat_map, list_all, list_any, range_with_len}
use Rattle.std.specs.Option.{option_and_then, option_map}
use Rattle.xfs_inode.specs.xfs_kinds.Owners.{clusters_owner}
use Rattle.xfs_disk.specs.Lists.{is_among}
use Rattle.xfs_disk.specs.Blocks.{Image}
use Rattle.xfs_geom.specs.Conversions.{group_length}
use Rattle.xfs_geom.specs.Groups.{block_of_address}
use Rattle.xfs_geom.specs.Volumes.{Volume}
use Rattle.xfs_geom.specs.declared.records.InoRec.{InoRec}
use Rattle.xfs_geom.specs.declared.records.RmapRec.{RmapRec}
use Rattle.xfs_inode.specs.xfs_tree.Blocks.{each_of}
use Rattle.xfs_inode.specs.xfs_kinds.InodeTrees.{is_missing}
use Rattle.xfs_image.specs.Groups.{head_block, agf_at, agi_at, ino_at, rmap_at}

-- the clusters of a chunk of a group that begins at a block: two, where neither the first half of its inodes is missing nor
-- the second
abbrev pub clusters_in : ℕ → InoRec → List ℕ
clusters_in base r =
    (if is_missing r.holemask 0 then [] else ((base + r.startino / 8) ∷ []))
    ++ (if is_missing r.holemask 32 then [] else ((base + r.startino / 8 + 4) ∷ []))

-- the clusters of some chunks of a group
abbrev pub chunk_clusters : Volume → ℕ → List InoRec → List ℕ
chunk_clusters v ag chunks = flat_map (clusters_in (head_block v ag)) chunks

-- the clusters that the tree of chunks names, where it reads
unfoldable pub named_by_chunks : Volume → Image → ℕ → Option (List ℕ)
named_by_chunks v image ag =
    option_map (λ tree. chunk_clusters v ag tree.records) (option_and_then (ino_at v image ag) (agi_at v image ag))

-- an AG block is given to the clusters
abbrev pub gives_block : ℕ → RmapRec → Bool
gives_block block r = r.owner == clusters_owner && nat_le r.start block && nat_lt block (r.start + r.count)

abbrev pub is_given_block : List RmapRec → ℕ → Bool
is_given_block records block = list_any (gives_block block) records

-- all that could be clusters of a group, by their first AG blocks: four blocks of it from a multiple of four on
abbrev pub places_in : Volume → ℕ → List ℕ
places_in v ag = each_of (group_length v ag / 4) (λ i. 4 * i)

-- the clusters whose four blocks are given
abbrev pub given_clusters : Volume → ℕ → List RmapRec → List ℕ
given_clusters v ag records =
    map (λ place. head_block v ag + place) (filter (λ place. list_all (is_given_block records) (range_with_len place 4)) (places_in v ag))

-- the clusters that the tree of owners names, where it reads
unfoldable pub named_by_owners : Volume → Image → ℕ → Option (List ℕ)
named_by_owners v image ag =
    option_map (λ tree. given_clusters v ag tree.records) (option_and_then (rmap_at v image ag) (agf_at v image ag))

abbrev pub same_clusters : List ℕ → List ℕ → Bool
same_clusters xs ys = list_all (is_among ys) xs && list_all (is_among xs) ys

-- a tree that reads names the cluster
abbrev pub names : Option (List ℕ) → ℕ → Bool
names None cluster = false
names (Some clusters) cluster = is_among clusters cluster

-- both trees read and name the same clusters
abbrev pub both_name : Option (List ℕ) → Option (List ℕ) → Bool
both_name None owners = false
both_name (Some chunks) None = false
both_name (Some chunks) (Some owners) = same_clusters chunks owners

-- the group says in full where its clusters are
unfoldable pub is_trusted : Volume → Image → ℕ → Bool
is_trusted v image ag = both_name (named_by_chunks v image ag) (named_by_owners v image ag)

-- the first block of the cluster of an inode, and that of the root's
abbrev pub cluster_of : Volume → ℕ → ℕ
cluster_of v ino = block_of_address v.agblocks v.agblklog (ino / 32 * 4)

abbrev pub root_cluster : Volume → ℕ
root_cluster v = cluster_of v v.rootino

-- a tree of its group names the cluster, or it is the root's
unfoldable pub is_recorded : Volume → Image → ℕ → Bool
is_recorded v image cluster =
    cluster == root_cluster v
    || names (named_by_chunks v image (cluster / v.agblocks)) cluster
    || names (named_by_owners v image (cluster / v.agblocks)) cluster
