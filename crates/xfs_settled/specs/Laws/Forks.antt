-- Laws about the forks of directories that are built anew. The function does nothing; its contract is the laws.
use Rattle.std.specs.Prelude.{◌<◌, ℕ, List}
use Rattle.std.specs.List.{AllByRecursion}
use Rattle.xfs_empty.specs.Planning.{StandsFor}
use Rattle.xfs_geom.specs.declared.geometry.Geometry.{Geometry}
use Rattle.xfs_geom.specs.declared.records.Run.{Run}
use Rattle.xfs_names.specs.Built.{CanBeBuilt}
use Rattle.xfs_names.specs.declared.building.BuiltDirectory.{BuiltDirectory}
use Rattle.xfs_names.specs.declared.building.ForkRoom.{ForkRoom}
use Rattle.xfs_names.specs.declared.records.WantedNames.{WantedNames}
use Rattle.xfs_place.specs.Objects.{ServeAsks, asks_of}
use Rattle.xfs_place.specs.declared.placed.Placed.{Placed}
use Rattle.xfs_mend.specs.xfs_rebuild.declared.names_due.NamesDue.{NamesDue}
use Rattle.xfs_built.specs.Asks.{objects_of}
use Rattle.xfs_mend.specs.xfs_rename.Renames.{AreBuilt, renamed_wanted}
use Rattle.xfs_built.specs.Directories.{HasOwnCounts}
use Rattle.xfs_built.specs.Pieces.{IsLowRun}
use Rattle.xfs_settled.specs.Served.{AreServed}

-- Directories that are built of the names that are wanted have fewer than 2^21 blocks of each kind (`counts`). Where the runs of their
-- asks are placed, each finds as many cuts and runs as it asks for (`served`); a run is of fewer than 2^21 blocks, all before file block
-- 2^54 (`low`), and starts in the volume (`inside`).
abbrev pub PlacedDirectoriesFindTheirRunsCounts : Type 0
PlacedDirectoriesFindTheirRunsCounts = (g : Geometry) (n : NamesDue) (w : WantedNames) (built : List BuiltDirectory) → AreBuilt g n w built → CanBeBuilt w → AllByRecursion HasOwnCounts built

-- of the same, `served`
abbrev pub PlacedDirectoriesFindTheirRunsServed : Type 0
PlacedDirectoriesFindTheirRunsServed = (rooms : List ForkRoom) (built : List BuiltDirectory) (cuts : List ℕ) (runs : List Run) → ServeAsks (asks_of (objects_of rooms built)) cuts runs
    → AreServed built cuts runs

-- of the same, `low`
abbrev pub PlacedDirectoriesFindTheirRunsLow : Type 0
PlacedDirectoriesFindTheirRunsLow = (rooms : List ForkRoom) (built : List BuiltDirectory) (cuts : List ℕ) (runs : List Run) → AllByRecursion HasOwnCounts built
    → ServeAsks (asks_of (objects_of rooms built)) cuts runs → AllByRecursion IsLowRun runs

-- of the same, `inside`
abbrev pub PlacedDirectoriesFindTheirRunsInside : Type 0
PlacedDirectoriesFindTheirRunsInside = (g : Geometry) (n : NamesDue) (w : WantedNames) (built : List BuiltDirectory) (p : Placed) → StandsFor (renamed_wanted g n w built) p
    → AllByRecursion (λ (r : Run). r.start < g.dblocks) p.runs
