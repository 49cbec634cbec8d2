-- Which cuts and runs serve the directories that are built anew.
use Rattle.std.specs.Prelude.{◌≡◌, ℕ, ◌≤◌, true, if◌then◌else◌, List, [], ◌∷◌, length, drop}
use Rattle.xfs_geom.specs.declared.records.Run.{Run}
use Rattle.xfs_names.specs.declared.building.BuiltDirectory.{BuiltDirectory}
use Rattle.xfs_built.specs.Asks.{stands_in_blocks}
use Rattle.xfs_built.specs.Directories.{asks_of_built, runs_of_built}

-- the first of the cuts and runs serve a directory: if it has blocks there are as many cuts as it asks for runs, and as many runs as these say
pub record IsServed (b : BuiltDirectory) (cuts : List ℕ) (runs : List Run) : Type 0 where
  pub cuts' : asks_of_built b ≤ length cuts
  pub runs' : runs_of_built b cuts ≤ length runs

-- what is left of them for the directories behind it
abbrev pub cuts_left : BuiltDirectory → List ℕ → List ℕ
cuts_left b cuts = if stands_in_blocks b then drop (asks_of_built b) cuts else cuts

abbrev pub runs_left : BuiltDirectory → List ℕ → List Run → List Run
runs_left b cuts runs = if stands_in_blocks b then drop (runs_of_built b cuts) runs else runs

abbrev pub AreServed : List BuiltDirectory → List ℕ → List Run → Type 0
AreServed [] cuts runs = Unit {0}
AreServed (b ∷ bs) cuts runs = (stands_in_blocks b ≡ true → IsServed b cuts runs) × AreServed bs (cuts_left b cuts) (runs_left b cuts runs)
