-- Which numbers the files of a volume in which names were changed have.
use Rattle.std.specs.Prelude.{◌≡◌, ◌⊎◌, ℕ, true, List, map}
use Rattle.std.specs.List.{Contains}
use Rattle.xfs_naming.specs.Naming.{NumbersAscend, numbers_of}
use Rattle.xfs_names.specs.declared.records.WantedNames.{WantedNames}
use Rattle.xfs_salvage.specs.declared.found.Salvaged.{Salvaged}
use Rattle.xfs_volume.specs.declared.files.FileRec.{FileRec}
use Rattle.xfs_rename.specs.xfs_rebuild.Names.{linked_files}
use Rattle.xfs_rename.specs.Settled.{staying_file}
use Rattle.xfs_rename.specs.xfs_changes.declared.lost_found.Lost.{Lost}

-- the numbers of the pairs of names and links
abbrev pub numbers_linked : WantedNames → List ℕ
numbers_linked w = map (λ (p : ℕ × ℕ). p.0) w.links

-- a number is that of a kept file, of one that is made anew, or of a new lost+found
abbrev pub IsNumberOf : Salvaged → Lost → ℕ → Type 0
IsNumberOf kept l ino = Contains (numbers_of kept.files) ino ⊎ (Contains kept.fresh ino ⊎ ((l.made ≡ true) × (ino ≡ l.new)))

-- the numbers of links ascend: those of kept files, of those that are made anew, and of a new lost+found, and no others; directories that
-- are built anew are among them; and the files that were there before are the kept ones
pub record AreNumbered (root : ℕ) (kept : Salvaged) (l : Lost) (w : WantedNames) (old : List FileRec) : Type 0 where
  pub up : NumbersAscend 0 (numbers_linked w)
  pub kept_up : NumbersAscend 0 (numbers_of kept.files)
  pub all : (ino : ℕ) → Contains (numbers_linked w) ino → IsNumberOf kept l ino
  pub each : (ino : ℕ) → IsNumberOf kept l ino → Contains (numbers_linked w) ino
  pub built : (ino : ℕ) → Contains w.rebuilt ino → Contains (numbers_linked w) ino
  pub old' : old ≡ map (staying_file w.rebuilt) (linked_files root kept)
