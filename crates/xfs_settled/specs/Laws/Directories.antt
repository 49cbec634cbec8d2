-- A law about directories that are built anew. The function does nothing; its contract is the laws.
use Rattle.std.specs.Prelude.{◌≡◌, ℕ, List, map}
use Rattle.std.specs.List.{All}
use Rattle.xfs_geom.specs.Volumes.{Volume}
use Rattle.xfs_geom.specs.declared.records.Run.{Run}
use Rattle.xfs_names.specs.Built.{IsBuiltAsWanted}
use Rattle.xfs_names.specs.declared.building.BuiltDirectory.{BuiltDirectory}
use Rattle.xfs_names.specs.declared.building.ForkRoom.{ForkRoom}
use Rattle.xfs_names.specs.declared.records.WantedNames.{WantedNames}
use Rattle.xfs_place.specs.declared.wanted.ObjectKind.TheVariants.{Directory}
use Rattle.xfs_changes.specs.Forks.{forks_of}
use Rattle.xfs_built.specs.Asks.{blocks_of_built, objects_of}
use Rattle.xfs_settled.specs.Sectors.{CanBeSealed}
use Rattle.xfs_volume.specs.declared.files.FileRec.{FileRec}

-- Directories with the same numbers that are built of the same names, with the same room in their forks, have the same bytes in
-- their blocks (`blocks`), ask for the same runs (`objects`), and have the same forks where they get the same (`forks`). Each of
-- their blocks has the magic number of what it is sealed as (`sealed`).
abbrev pub BuiltDirectoriesAreOneBlocks : Type 0
BuiltDirectoriesAreOneBlocks = (w : WantedNames) (rooms : List ForkRoom) (built other : List BuiltDirectory)
    → map (λ (b : BuiltDirectory). b.ino) built ≡ map (λ (b : BuiltDirectory). b.ino) other → All (IsBuiltAsWanted w rooms) built
    → All (IsBuiltAsWanted w rooms) other → blocks_of_built built ≡ blocks_of_built other

-- of the same, `objects`
abbrev pub BuiltDirectoriesAreOneObjects : Type 0
BuiltDirectoriesAreOneObjects = (w : WantedNames) (rooms : List ForkRoom) (built other : List BuiltDirectory)
    → map (λ (b : BuiltDirectory). b.ino) built ≡ map (λ (b : BuiltDirectory). b.ino) other → All (IsBuiltAsWanted w rooms) built
    → All (IsBuiltAsWanted w rooms) other → objects_of rooms built ≡ objects_of rooms other

-- of the same, `forks`
abbrev pub BuiltDirectoriesAreOneForks : Type 0
BuiltDirectoriesAreOneForks = (v : Volume) (files : List FileRec) (w : WantedNames) (rooms : List ForkRoom) (built other : List BuiltDirectory)
    → map (λ (b : BuiltDirectory). b.ino) built ≡ map (λ (b : BuiltDirectory). b.ino) other → All (IsBuiltAsWanted w rooms) built
    → All (IsBuiltAsWanted w rooms) other → (cuts : List ℕ) (runs : List Run) → forks_of v files built cuts runs ≡ forks_of v files other cuts runs

-- of the same, `sealed`
abbrev pub BuiltDirectoriesAreOneSealed : Type 0
BuiltDirectoriesAreOneSealed = (w : WantedNames) (rooms : List ForkRoom) (built : List BuiltDirectory) → All (IsBuiltAsWanted w rooms) built
    → All (CanBeSealed Directory) (blocks_of_built built)
