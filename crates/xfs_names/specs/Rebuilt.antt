-- Which directories are built anew: those that are not whole, and those whose names, targets, types or parent are not those that
-- are wanted; no type counts as the right one (chapter "Directories").
use Rattle.std.specs.Prelude.{ℕ, Bool, true, false, not, ◌==◌, ◌&&◌, ◌||◌, List, [], ◌∷◌, map}
use Rattle.std.specs.List.{filter, list_any}
use Rattle.std.specs.Str.{bytes_eq}
use Rattle.xfs_dirdata.specs.declared.records.EntryRec.{EntryRec}
use Rattle.xfs_volume.specs.declared.directories.DirRec.{DirRec}
use Rattle.xfs_naming.specs.Naming.{entries_in}
use Rattle.xfs_links.specs.declared.records.NodeRec.{NodeRec}
use Rattle.xfs_names.specs.Wanted.{wanted_entries, wanted_parents}

-- an entry is as it is wanted
abbrev pub is_right_entry : EntryRec → EntryRec → Bool
is_right_entry held due = bytes_eq held.name due.name && (held.ino == due.ino && (held.ftype == 0 || held.ftype == due.ftype))

-- one after the other they are
abbrev pub are_right_entries : List EntryRec → List EntryRec → Bool
are_right_entries [] [] = true
are_right_entries [] (d ∷ ds) = false
are_right_entries (h ∷ hs) [] = false
are_right_entries (h ∷ hs) (d ∷ ds) = is_right_entry h d && are_right_entries hs ds

-- the directory was found whole, with this parent
abbrev pub is_whole_with : List DirRec → ℕ → ℕ → Bool
is_whole_with dirs d parent = list_any (λ (r : DirRec). r.ino == d && (r.whole && r.parent == parent)) dirs

-- a directory with its parent is built anew
abbrev pub is_rebuilt : List EntryRec → List DirRec → List EntryRec → ℕ × ℕ → Bool
is_rebuilt listed dirs wanted d = not (is_whole_with dirs d.0 d.1 && are_right_entries (entries_in listed d.0) (entries_in wanted d.0))

abbrev pub rebuilt_among : List EntryRec → List DirRec → List EntryRec → List (ℕ × ℕ) → List ℕ
rebuilt_among listed dirs wanted parents = map (λ (d : ℕ × ℕ). d.0) (filter (is_rebuilt listed dirs wanted) parents)

abbrev pub wanted_rebuilt : List NodeRec → List EntryRec → List DirRec → ℕ → ℕ → List ℕ
wanted_rebuilt nodes listed dirs root new = rebuilt_among listed dirs (wanted_entries nodes listed root new) (wanted_parents nodes listed root new)
