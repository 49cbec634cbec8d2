-- The first three laws, of a volume's groups and its owned runs in any order.
use Rattle.std.specs.Prelude.{ℕ, ◌≤◌, ◌≡◌, List, ◌++◌}
use Rattle.xfs_geom.specs.Runs.{runs_on}
use Rattle.xfs_geom.specs.Volumes.{Volume}
use Rattle.xfs_geom.specs.declared.records.Run.{Run}
use Rattle.xfs_volume.specs.declared.findings.Law.{Law}
use Rattle.xfs_volume.specs.declared.groups.GroupRec.{GroupRec}
use Rattle.xfs_kinds.specs.MergedRuns.{held_at}
use Rattle.xfs_space.specs.SpaceLaws.{AllAreFree, free_laws, owner_laws, recorded_runs, sharing_laws}

abbrev pub run_laws : Volume → List GroupRec → List Run → List Law
run_laws v groups runs = sharing_laws v runs ++ free_laws v runs 0 groups ++ owner_laws v (recorded_runs v.agblocks 0 groups) runs

-- the first three laws in words
pub record AreLawful (v : Volume) (groups : List GroupRec) (runs : List Run) : Type 0 where
  pub once : (block : ℕ) → runs_on runs block ≤ 1
  pub free : AllAreFree v runs 0 groups
  pub owners : (block : ℕ) → held_at (recorded_runs v.agblocks 0 groups) block ≡ held_at runs block
