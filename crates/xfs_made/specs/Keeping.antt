-- What is kept of a volume is what its clusters and its files own.
use Rattle.std.specs.Prelude.{◌≡◌, ℕ, ◌*◌, ◌≤◌, List, ◌++◌, map}
use Rattle.std.specs.List.{flat_map, range_with_len}
use Rattle.xfs_geom.specs.Runs.{runs_on}
use Rattle.xfs_geom.specs.Volumes.{Volume}
use Rattle.xfs_geom.specs.declared.records.Run.{Run}
use Rattle.xfs_kinds.specs.InodeTrees.{ino_shape}
use Rattle.xfs_kinds.specs.MergedRuns.{held_at}
use Rattle.xfs_volume.specs.declared.files.FileRec.{FileRec}
use Rattle.xfs_space.specs.Owners.{cluster_runs, file_runs}
use Rattle.xfs_place.specs.Wanted.{inodes_in_group}
use Rattle.xfs_place.specs.declared.wanted.GroupInodes.{GroupInodes}

-- the runs of the clusters of all groups
abbrev pub all_clusters : Volume → List GroupInodes → List Run
all_clusters v inodes =
    flat_map (λ ag. cluster_runs (ag * v.agblocks) (map (ino_shape ag).settled (inodes_in_group inodes ag))) (range_with_len 0 v.agcount)

abbrev pub all_used : Volume → List GroupInodes → List FileRec → List Run
all_used v inodes files = all_clusters v inodes ++ flat_map (file_runs v) files

-- what is kept gives each block the owner that a cluster or a file is of it, and no block is of two of these
pub record KeepsJust (v : Volume) (kept : List Run) (inodes : List GroupInodes) (files : List FileRec) : Type 0 where
  pub once : (block : ℕ) → runs_on (all_used v inodes files) block ≤ 1
  pub held : (block : ℕ) → held_at (all_used v inodes files) block ≡ held_at kept block
