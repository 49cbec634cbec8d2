-- What the laws of names mean, in the words of directories, entries and files (chapters "Directories" and "On-disk Inode").
use Rattle.std.specs.Prelude.{ℕ, ◌+◌, ◌≡◌, ◌≢◌, ◌⊎◌, true, List, length, count_by}
use Rattle.std.specs.List.{All, AllPairs, Any}
use Rattle.xfs_dirdata.specs.declared.records.EntryRec.{EntryRec}
use Rattle.xfs_volume.specs.declared.directories.DirRec.{DirRec}
use Rattle.xfs_volume.specs.declared.files.FileRec.{FileRec}
use Rattle.xfs_volume.specs.Names.{is_name, type_of, entry_type}
use Rattle.xfs_naming.specs.Naming.{is_directory_at, entries_to, entries_in}

-- a way of entries leads from the root: each is in the directory to which those before it lead
pub data IsReached : List EntryRec → ℕ → ℕ → Type 0 where
  at_root : {entries : List EntryRec} {root : ℕ} → IsReached entries root root
  by_entry : {entries : List EntryRec} {root dir ino : ℕ} → IsReached entries root dir
      → Any (λ (e : EntryRec). (e.dir ≡ dir) × (e.ino ≡ ino)) entries → IsReached entries root ino

-- not one of the inodes of the system's own, which are the two behind the root
abbrev pub IsOrdinary : ℕ → ℕ → Type 0
IsOrdinary root ino = (ino ≢ root + 1) × (ino ≢ root + 2)

-- a directory, and another file
abbrev pub IsDirectory : FileRec → Type 0
IsDirectory f = type_of f ≡ 4

abbrev pub IsOther : FileRec → Type 0
IsOther f = type_of f ≢ 4

-- a file of the system's own is in use with this number: regular, with no bytes, no data, no tree of extents and one link
pub record IsSystemFile (ino : ℕ) (f : FileRec) : Type 0 where
  pub number : f.ino ≡ ino
  pub regular : type_of f ≡ 8
  pub no_bytes : f.core.size ≡ 0
  pub no_data : length f.extents ≡ 0
  pub no_tree : length f.rest.tree ≡ 0
  pub one_link : f.core.nlink ≡ 1

-- each directory is whole, and its entries name files in use by their types, with names that can be and that differ
pub record HasLawfulEntries (root : ℕ) (files : List FileRec) (entries : List EntryRec) (dirs : List DirRec) : Type 0 where
  pub whole : All (λ (d : DirRec). d.whole ≡ true) dirs
  pub valid : All (λ (e : EntryRec). is_name e.name ≡ true) entries
  pub differ : AllPairs (λ (a b : EntryRec). a.dir ≡ b.dir → a.name ≢ b.name) entries
  pub in_use : All (λ (e : EntryRec). Any (λ (f : FileRec). f.ino ≡ e.ino) files) entries
  pub ordinary : All (λ (e : EntryRec). IsOrdinary root e.ino) entries
  pub types : All (λ (e : EntryRec). (e.ftype ≡ 0) ⊎ Any (λ (f : FileRec). (f.ino ≡ e.ino) × (e.ftype ≡ entry_type (type_of f))) files) entries

-- the root is a directory with no name, its own parent; each other directory has one name, in its parent, and is reached from
-- the root; each other file but the system's has a name
pub record HasLawfulPlaces (root : ℕ) (files : List FileRec) (entries : List EntryRec) (dirs : List DirRec) : Type 0 where
  pub root_directory : Any (λ (f : FileRec). (f.ino ≡ root) × IsDirectory f) files
  pub root_unnamed : All (λ (e : EntryRec). e.ino ≢ root) entries
  pub root_parent : Any (λ (d : DirRec). (d.ino ≡ root) × (d.parent ≡ root)) dirs
  pub once : All (λ (d : DirRec). d.ino ≢ root → length (entries_to entries d.ino) ≡ 1) dirs
  pub by_parent : All (λ (e : EntryRec). is_directory_at files e.ino ≡ true → Any (λ (d : DirRec). (d.ino ≡ e.ino) × (d.parent ≡ e.dir)) dirs) entries
  pub reached : All (λ (d : DirRec). IsReached entries root d.ino) dirs
  pub named : All (λ (f : FileRec). IsOther f → IsOrdinary root f.ino → Any (λ (e : EntryRec). e.ino ≡ f.ino) entries) files

-- a directory has two links and one for each directory in it, another file one for each name; the system's two files are there
pub record HasLawfulLinks (root : ℕ) (files : List FileRec) (entries : List EntryRec) : Type 0 where
  pub of_directories : All (λ (f : FileRec). IsDirectory f → f.core.nlink ≡ 2 + count_by (λ (e : EntryRec). is_directory_at files e.ino) (entries_in entries f.ino)) files
  pub of_others : All (λ (f : FileRec). IsOther f → IsOrdinary root f.ino → f.core.nlink ≡ length (entries_to entries f.ino)) files
  pub first : Any (IsSystemFile (root + 1)) files
  pub second : Any (IsSystemFile (root + 2)) files

-- a volume keeps the laws of names
pub record IsNamingLawful (root : ℕ) (files : List FileRec) (entries : List EntryRec) (dirs : List DirRec) : Type 0 where
  pub directories : HasLawfulEntries root files entries dirs
  pub places : HasLawfulPlaces root files entries dirs
  pub links : HasLawfulLinks root files entries
