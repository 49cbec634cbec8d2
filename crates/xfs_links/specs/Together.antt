-- All names together: the entries that stay, the orphans in lost+found, and lost+found itself where it is new (chapter "Directories").
use Rattle.std.specs.Prelude.{◌≡◌, ◌≢◌, ℕ, Bool, true, false, if◌then◌else◌, List, [], ◌∷◌, ◌++◌, map, Option, None, Some, unwrap_or}
use Rattle.xfs_dirdata.specs.declared.records.EntryRec.{EntryRec}
use Rattle.xfs_links.specs.declared.records.NodeRec.{NodeRec}
use Rattle.xfs_links.specs.Walk.{attached_parent}
use Rattle.xfs_links.specs.Connected.{lost_found, lost_of, named_orphans, attached_directories, kept_entries}

-- two entries of one directory have two names
abbrev pub NamesDiffer : EntryRec → EntryRec → Type 0
NamesDiffer a b = a.dir ≡ b.dir → a.name ≢ b.name

-- the directory for orphans: the one that is there, or else a new one
abbrev pub lost_directory : Option ℕ → ℕ → ℕ
lost_directory None new = new
lost_directory (Some old) new = old

-- an orphan's entry in it; the type of the file is not told
abbrev pub orphan_entry : ℕ → ℕ × List ℕ → EntryRec
orphan_entry lost orphan = record { dir = lost; name = orphan.1; ino = orphan.0; ftype = 0 }

-- the entry of a new lost+found
abbrev pub lost_entry : ℕ → ℕ → EntryRec
lost_entry root new = record { dir = root; name = lost_found; ino = new; ftype = 0 }

-- lost+found is new where there are orphans and no directory for them
abbrev pub is_new : Option ℕ → List (ℕ × List ℕ) → Bool
is_new old [] = false
is_new None (o ∷ os) = true
is_new (Some l) (o ∷ os) = false

-- and has then one entry, in the root
abbrev pub new_entries : ℕ → Option ℕ → ℕ → List (ℕ × List ℕ) → List EntryRec
new_entries root old new os = if is_new old os then (lost_entry root new ∷ []) else []

-- the orphans, with their names
abbrev pub orphans_of : List NodeRec → List EntryRec → ℕ → List (ℕ × List ℕ)
orphans_of files entries root = named_orphans files root (attached_directories files entries root) (kept_entries files entries root)

-- the lost+found that is there
abbrev pub old_lost : List NodeRec → List EntryRec → ℕ → Option ℕ
old_lost files entries root = lost_of files root (kept_entries files entries root)

abbrev pub adds_lost : List NodeRec → List EntryRec → ℕ → Bool
adds_lost files entries root = is_new (old_lost files entries root) (orphans_of files entries root)

-- the entries of all directories; those of one directory stand in their order
abbrev pub entries_together : List NodeRec → List EntryRec → ℕ → ℕ → List EntryRec
entries_together files entries root new =
    kept_entries files entries root
    ++ map (orphan_entry (lost_directory (old_lost files entries root) new)) (orphans_of files entries root)
    ++ new_entries root (old_lost files entries root) new (orphans_of files entries root)

-- the directory with the name of a directory: its parent, or lost+found where it has none
abbrev pub parent_together : List NodeRec → List EntryRec → ℕ → ℕ → ℕ → ℕ
parent_together files entries root new n = unwrap_or (attached_parent (attached_directories files entries root) n) (lost_directory (old_lost files entries root) new)
