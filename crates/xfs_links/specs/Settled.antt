-- A volume in which names are as they were decided: its files, its directories with their parents, its entries by directory
-- (chapters "Directories" and "On-disk Inode").
use Rattle.std.specs.Prelude.{◌≡◌, ℕ, ◌==◌, ◌&&◌, ◌||◌, true, if◌then◌else◌, List, [], ◌∷◌, ◌++◌, map}
use Rattle.std.specs.List.{All}
use Rattle.xfs_dirdata.specs.declared.records.EntryRec.{EntryRec}
use Rattle.xfs_volume.specs.declared.directories.DirRec.{DirRec}
use Rattle.xfs_volume.specs.declared.files.FileRec.{FileRec}
use Rattle.xfs_naming.specs.Naming.{is_in_use, is_directory_at, entries_in, AreNamed}
use Rattle.xfs_links.specs.declared.records.NodeRec.{NodeRec}
use Rattle.xfs_links.specs.Entries.{is_kept_node, is_directory_number}
use Rattle.xfs_links.specs.Together.{adds_lost, entries_together, parent_together}

-- the files in use are those that were kept, and lost+found where it is new
pub record HasFiles (nodes : List NodeRec) (listed : List EntryRec) (root new : ℕ) (files : List FileRec) : Type 0 where
  pub in_use : (n : ℕ) → is_in_use files n ≡ (is_kept_node nodes n || (adds_lost nodes listed root && n == new))
  pub directory : (n : ℕ) → is_directory_at files n ≡ (is_directory_number nodes n || (adds_lost nodes listed root && n == new))

-- the parent of a directory: the root is that of a new lost+found
abbrev pub parent_due : List NodeRec → List EntryRec → ℕ → ℕ → ℕ → ℕ
parent_due nodes listed root new n = if n == new then root else parent_together nodes listed root new n

-- each directory is whole and states its parent
pub record HasDirectories (nodes : List NodeRec) (listed : List EntryRec) (root new : ℕ) (dirs : List DirRec) : Type 0 where
  pub whole : All (λ (d : DirRec). d.whole ≡ true) dirs
  pub parents : All (λ (d : DirRec). d.parent ≡ parent_due nodes listed root new d.ino) dirs

-- an entry but for the type that it states
abbrev pub untyped : EntryRec → EntryRec
untyped e = record { dir = e.dir; name = e.name; ino = e.ino; ftype = 0 }

-- the entries of some directories, one directory after the other
abbrev pub by_directory : List EntryRec → List ℕ → List EntryRec
by_directory entries [] = []
by_directory entries (d ∷ ds) = entries_in entries d ++ by_directory entries ds

-- the entries are all names together, by directory; each may state a type
pub record HasEntries (nodes : List NodeRec) (listed : List EntryRec) (root new : ℕ) (dirs : List DirRec) (entries : List EntryRec) : Type 0 where
  pub same : map untyped entries ≡ map untyped (by_directory (entries_together nodes listed root new) (map (λ (d : DirRec). d.ino) dirs))

-- the volume has the names that were decided
pub record IsSettled (nodes : List NodeRec) (listed : List EntryRec) (root new : ℕ) (files : List FileRec) (entries : List EntryRec) (dirs : List DirRec) : Type 0 where
  pub files_are : HasFiles nodes listed root new files
  pub directories_are : HasDirectories nodes listed root new dirs
  pub entries_are : HasEntries nodes listed root new dirs entries
  pub named : AreNamed files entries dirs
