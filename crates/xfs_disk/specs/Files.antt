-- What a library holds: a finite map from names to the bytes of files.
use Rattle.std.specs.Prelude.{ℕ, ◌≤◌, if◌then◌else◌, List, [], ◌∷◌, Option, Some, None, Result, Ok, Err}
use Rattle.std.specs.Str.{bytes_eq}
use Rattle.xfs_disk.specs.Faults.{Rose}
use Rattle.xfs_disk.specs.declared.library.LibraryFault.{LibraryFault}
use Rattle.xfs_disk.specs.declared.library.LibraryFault.TheVariants.{Missing, Failed, NoMemory}

-- names and bytes; of two entries with one name the first counts
abbrev pub Files : Type 0
Files = List (List ℕ × List ℕ)

-- the bytes of the file of this name
abbrev pub file_named : List ℕ → Files → Option (List ℕ)
file_named name [] = None
file_named name (file ∷ files) = if bytes_eq name file.0 then Some file.1 else file_named name files

-- the count has not fallen, and `Failed` is answered only where it rose
abbrev pub HasLibraryCause : {T : Type 0} → ℕ → ℕ → Result T LibraryFault → Type 0
HasLibraryCause before now (Ok _) = before ≤ now
HasLibraryCause before now (Err Missing) = before ≤ now
HasLibraryCause before now (Err Failed) = Rose before now
HasLibraryCause before now (Err NoMemory) = before ≤ now
