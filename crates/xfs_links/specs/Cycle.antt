-- A small volume whose names were decided: below the root, two directories that name each other.
use Rattle.std.specs.Prelude.{ℕ, true, List, [], ◌∷◌, codes}
use Rattle.xfs_dirdata.specs.declared.records.EntryRec.{EntryRec}
use Rattle.xfs_volume.specs.declared.directories.DirRec.{DirRec}
use Rattle.xfs_links.specs.declared.records.NodeRec.{NodeRec}

abbrev pub node : ℕ → NodeRec
node ino = record { ino = ino; kind = 4 }

abbrev pub named_entry : ℕ → List ℕ → ℕ → ℕ → EntryRec
named_entry dir name ino ftype = record { dir = dir; name = name; ino = ino; ftype = ftype }

abbrev pub directory : ℕ → ℕ → DirRec
directory ino parent = record { ino = ino; parent = parent; whole = true }

-- what was found
abbrev pub cycle_nodes : List NodeRec
cycle_nodes = node 128 ∷ node 150 ∷ node 151 ∷ []

abbrev pub cycle_listed : List EntryRec
cycle_listed = named_entry 150 (codes "x") 151 2 ∷ named_entry 151 (codes "y") 150 2 ∷ []

-- what it is to have: the first of the two in a new lost+found, 200, and the second below it
abbrev pub cycle_entries : List EntryRec
cycle_entries = named_entry 128 (codes "lost+found") 200 2 ∷ named_entry 150 (codes "x") 151 2 ∷ named_entry 200 (codes "150") 150 2 ∷ []

abbrev pub cycle_dirs : List DirRec
cycle_dirs = directory 128 128 ∷ directory 150 200 ∷ directory 151 150 ∷ directory 200 128 ∷ []
