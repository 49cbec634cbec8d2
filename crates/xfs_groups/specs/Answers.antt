-- What a reading of groups answers, and why.
use Rattle.std.specs.Prelude.{ℕ, Bool, not, ◌+◌, ◌≤◌, ◌==◌, ◌&&◌, List, map, Result, MatchResult}
use Rattle.std.specs.List.{All, list_all, list_any, range_with_len}
use Rattle.xfs_disk.specs.Blocks.{Image}
use Rattle.xfs_disk.specs.Faults.{Rose}
use Rattle.xfs_geom.specs.Volumes.{Volume}
use Rattle.xfs_volume.specs.declared.clusters.ClusterRec.{ClusterRec}
use Rattle.xfs_image.specs.Candidates.{has_whole_seal}
use Rattle.xfs_image.specs.Clusters.{root_cluster}
use Rattle.xfs_image.specs.Reserved.{reserved_in}
use Rattle.xfs_groups.specs.declared.faults.GroupsFault.{GroupsFault}
use Rattle.xfs_groups.specs.declared.faults.GroupsFault.TheVariants as faults
use Rattle.xfs_groups.specs.declared.groups.GroupTrees.{GroupTrees}

-- a read fault is answered only where the count of failed reads rose
abbrev pub IsGroupsCause : ℕ → ℕ → GroupsFault → Type 0
IsGroupsCause before now faults.ReadFault = Rose before now
IsGroupsCause before now faults.NoMemory = before ≤ now

abbrev pub HasGroupsCause : {T : Type 0} → ℕ → ℕ → Result T GroupsFault → Type 0
HasGroupsCause before now result = MatchResult result (λ _. before ≤ now) (IsGroupsCause before now)

-- the reserved blocks of each of some groups
abbrev pub lists_of : List GroupTrees → List (List ℕ)
lists_of trees = map (λ (t : GroupTrees). t.reserved) trees

-- the reserved blocks of each group of a volume
abbrev pub reserved_lists : Volume → Image → List (List ℕ)
reserved_lists v image = map (reserved_in v image) (range_with_len 0 v.agcount)

-- each cluster ends at a block or before it
abbrev pub EndBelow : ℕ → List ClusterRec → Type 0
EndBelow limit clusters = All (λ (c : ClusterRec). c.block + 4 ≤ limit) clusters

-- the cluster of the root is there, as one that a tree names
abbrev pub has_root_cluster : Volume → List ClusterRec → Bool
has_root_cluster v clusters = list_any (λ (c : ClusterRec). c.recorded && c.block == root_cluster v) clusters

-- none of some blocks is sealed as one object
abbrev pub are_bare : Volume → Image → ℕ → ℕ → Bool
are_bare v image first count = list_all (λ block. not (has_whole_seal v image block)) (range_with_len first count)

-- no block of these clusters is
abbrev pub hold_no_object : Volume → Image → List ClusterRec → Bool
hold_no_object v image clusters = list_all (λ (c : ClusterRec). are_bare v image c.block 4) clusters
