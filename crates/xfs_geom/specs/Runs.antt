-- Runs of blocks of a volume, and the blocks that they have.
use Rattle.std.specs.Prelude.{ℕ, Bool, List, count_by}
use Rattle.xfs_disk.specs.Lists.{is_in_range}
use Rattle.xfs_geom.specs.declared.records.Run.{Run}

-- the run has the block
abbrev pub covers : ℕ → Run → Bool
covers block r = is_in_range r.start r.count block

-- how many of the runs have the block
abbrev pub runs_on : List Run → ℕ → ℕ
runs_on runs block = count_by (covers block) runs
