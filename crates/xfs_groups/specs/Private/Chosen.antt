-- The clusters of a group whose slots are read, and its reserved blocks, by what its trees name and whether it is trusted.
use Rattle.std.specs.Prelude.{◌≡◌, ◌<◌, IsTrue, ℕ, Bool, not, ◌+◌, ◌*◌, ◌==◌, ◌&&◌, ◌||◌, ◌++◌, ◌∷◌, [], if◌then◌else◌, true, List, map}
use Rattle.std.specs.List.{filter, list_all, list_any, range_with_len}
use Rattle.xfs_disk.specs.Lists.{is_among}
use Rattle.xfs_disk.specs.Blocks.{Image}
use Rattle.xfs_geom.specs.Conversions.{is_fixed}
use Rattle.xfs_geom.specs.Volumes.{Volume}
use Rattle.xfs_volume.specs.declared.clusters.ClusterRec.{ClusterRec}
use Rattle.xfs_image.specs.Candidates.{ClustersAscend, cluster_rec, is_candidate, has_whole_seal, lies_in_chunk}
use Rattle.xfs_groups.specs.Answers.{EndBelow, has_root_cluster}
use Rattle.xfs_image.specs.Clusters.{both_name, places_in, root_cluster}
use Rattle.xfs_image.specs.Groups.{head_block}
use Rattle.xfs_image.specs.Reserved.{is_of_named, is_of_tree}
use Rattle.xfs_groups.specs.Named.{chunks_in, is_named, owners_in}
use Rattle.xfs_groups.specs.declared.one_group.Told.{Told}
use Rattle.xfs_groups.specs.declared.trees.Trees.{Trees}
use Rattle.xfs_groups.specs.Private.Looking.{has_used, is_naming}

-- the block has no fixed use and is no other object
abbrev pub can_hold_cluster : Volume → Image → ℕ → Bool
can_hold_cluster v image block = not (is_fixed v block || has_whole_seal v image block)

-- some blocks hold a slot in use; none has a fixed use or is another object
abbrev pub are_used : Volume → Image → ℕ → ℕ → Bool
are_used v image first count = list_any (has_used v image) (range_with_len first count)

abbrev pub are_clear : Volume → Image → ℕ → ℕ → Bool
are_clear v image first count = list_all (can_hold_cluster v image) (range_with_len first count)

-- a tree names the cluster, or it is the root's
abbrev pub is_recorded_in : Volume → List ℕ → ℕ → Bool
is_recorded_in v named cluster = cluster == root_cluster v || is_among named cluster

-- the slots of the cluster are read: it is the root's, or it is named or scanned, lies in a chunk and is clear
abbrev pub is_chosen_as : Volume → List ℕ → ℕ → Bool → Bool → Bool
is_chosen_as v named cluster scanned clear = cluster == root_cluster v || ((is_among named cluster || scanned) && lies_in_chunk v cluster && clear)

abbrev pub is_chosen : Volume → Image → Bool → List ℕ → ℕ → Bool
is_chosen v image trusted named cluster =
    is_chosen_as v named cluster (not trusted && are_used v image cluster 4) (are_clear v image cluster 4)

-- the slots of a cluster of a group that is trusted are read, where it is known whether a tree names it
abbrev pub is_chosen_where : Volume → Image → Bool → ℕ → Bool
is_chosen_where v image named cluster = cluster == root_cluster v || (named && lies_in_chunk v cluster && are_clear v image cluster 4)

-- the place of a group at an index
abbrev pub cluster_place : Volume → ℕ → ℕ → ℕ
cluster_place v ag i = head_block v ag + 4 * i

abbrev pub chosen_rec : Volume → List ℕ → ℕ → ClusterRec
chosen_rec v named cluster = record { block = cluster; recorded = is_recorded_in v named cluster }

-- those of the first places of a group whose slots are read
unfoldable pub chosen : Volume → Image → Bool → List ℕ → ℕ → ℕ → List ClusterRec
chosen v image trusted named ag n = map (chosen_rec v named) (filter (is_chosen v image trusted named) (map (cluster_place v ag) (range_with_len 0 n)))

-- clusters with one more behind them, where its slots are read; those of the root's are
pub record WithCluster (v : Volume) (named : List ℕ) (cluster : ℕ) (old new : List ClusterRec) : Type 0 where
  pub wanted : Bool
  pub joined : new ≡ old ++ (if wanted then (chosen_rec v named cluster ∷ []) else [])
  pub root : cluster ≡ root_cluster v → wanted ≡ true

-- nothing new is placed on the block
abbrev pub is_withheld : Volume → Image → Bool → List ℕ → ℕ → Bool
is_withheld v image trusted held block = is_among held block || (not trusted && (is_naming v image block || has_used v image block))

-- those of some blocks
unfoldable pub withheld : Volume → Image → Bool → List ℕ → ℕ → ℕ → List ℕ
withheld v image trusted held first count = filter (is_withheld v image trusted held) (range_with_len first count)

-- some clusters of the first places of a group: they ascend, no two have a block in common, and that of the root is among them
-- where it stands at one of the places
pub record ClustersPlaced (v : Volume) (ag n : ℕ) (clusters : List ClusterRec) : Type 0 where
  pub ascend : ClustersAscend (head_block v ag) clusters
  pub low : EndBelow (cluster_place v ag n) clusters
  pub root : (i : ℕ) → i < n → cluster_place v ag i ≡ root_cluster v → IsTrue (has_root_cluster v clusters)

-- clusters with those of a group behind them
pub record WithPlaced (v : Volume) (ag n : ℕ) (old new : List ClusterRec) : Type 0 where
  pub more : List ClusterRec
  pub joined : new ≡ old ++ more
  pub placed : ClustersPlaced v ag n more

-- the clusters of a group whose slots are read
unfoldable pub candidates_in : Volume → Image → ℕ → List ClusterRec
candidates_in v image ag = map (cluster_rec v image) (filter (is_candidate v image) (map (λ place. head_block v ag + place) (places_in v ag)))

-- what the trees of a group say: whether both name the same clusters, those that one names, and the blocks that one holds
pub record IsToldOfGroup (v : Volume) (ag : ℕ) (trees : Trees) (told : Told) : Type 0 where
  pub trusted : told.trusted ≡ both_name (chunks_in v ag trees.ino) (owners_in v ag trees.rmap)
  pub named : (q : ℕ) → is_among told.named q ≡ is_named (chunks_in v ag trees.ino) (owners_in v ag trees.rmap) q
  pub held : (q : ℕ) → is_among told.held q
      ≡ (is_of_tree trees.ino q || is_of_tree trees.rmap q || is_of_named (chunks_in v ag trees.ino) q || is_of_named (owners_in v ag trees.rmap) q)
