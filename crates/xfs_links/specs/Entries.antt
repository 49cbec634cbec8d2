-- Which entries may stay.
use Rattle.std.specs.Prelude.{◌≡◌, ℕ, ◌+◌, ◌<◌, ◌≤◌, ◌^◌, ◌==◌, ◌&&◌, ◌||◌, Bool, true, not, if◌then◌else◌, List, [], ◌∷◌, ◌++◌, length, slice_index_or}
use Rattle.std.specs.List.{list_any, filter, All}
use Rattle.std.specs.Str.{bytes_eq}
use Rattle.xfs_volume.specs.Names.{is_name}
use Rattle.xfs_dirdata.specs.declared.records.EntryRec.{EntryRec}
use Rattle.xfs_links.specs.declared.records.NodeRec.{NodeRec}

-- the file with the number is kept
abbrev pub is_kept_node : List NodeRec → ℕ → Bool
is_kept_node files n = list_any (λ f. f.ino == n) files

-- it is kept, and a directory
abbrev pub is_directory_number : List NodeRec → ℕ → Bool
is_directory_number files n = list_any (λ f. f.ino == n && f.kind == 4) files

-- the root, or one of the two system inodes that follow it
abbrev pub is_reserved_inode : ℕ → ℕ → Bool
is_reserved_inode root n = n == root || (n == root + 1 || n == root + 2)

-- the entry can name its file: the name is one that a file can have, and the file is kept and not reserved
abbrev pub passes : List NodeRec → ℕ → EntryRec → Bool
passes files root e = is_name e.name && (is_kept_node files e.ino && not (is_reserved_inode root e.ino))

-- the entries are of one directory and have one name
abbrev pub same_name : EntryRec → EntryRec → Bool
same_name e f = e.dir == f.dir && bytes_eq e.name f.name

-- the entries whose name no entry before them has, neither one of those met nor one of these
abbrev pub firsts : List EntryRec → List EntryRec → List EntryRec
firsts met [] = []
firsts met (e ∷ es) = if list_any (λ f. same_name f e) met then firsts met es else (e ∷ firsts (met ++ e ∷ []) es)

-- the candidates: the entries that can name their files, of equal names in a directory the first
abbrev pub candidate_entries : List NodeRec → ℕ → List EntryRec → List EntryRec
candidate_entries files root entries = firsts [] (filter (passes files root) entries)

-- the file at a place, its number, and whether it is a directory
abbrev pub no_node : NodeRec
no_node = record { ino = 0; kind = 0 }

abbrev pub node_number : List NodeRec → ℕ → ℕ
node_number files place = (slice_index_or files place no_node).ino

abbrev pub is_directory_at_place : List NodeRec → ℕ → Bool
is_directory_at_place files place = (slice_index_or files place no_node).kind == 4

-- the numbers ascend from low on
abbrev pub NodesAscend : ℕ → List NodeRec → Type 0
NodesAscend low [] = Unit {0}
NodesAscend low (f ∷ fs) = (low ≤ f.ino) × NodesAscend (f.ino + 1) fs

-- files as they are listed: fewer than 2^32, numbers below 2^32, ascending
pub record AreFiles (files : List NodeRec) : Type 0 where
  pub few : length files < 2 ^ 32
  pub low : All (λ f. f.ino < 2 ^ 32) files
  pub ascend : NodesAscend 0 files

-- the directories of the entries ascend from low on
abbrev pub DirectoriesAscend : ℕ → List EntryRec → Type 0
DirectoriesAscend low [] = Unit {0}
DirectoriesAscend low (e ∷ es) = (low ≤ e.dir) × DirectoriesAscend e.dir es

-- entries as they are listed: those of directories among the files, grouped by directory, ascending
pub record AreEntries (files : List NodeRec) (entries : List EntryRec) : Type 0 where
  pub known : All (λ e. is_directory_number files e.dir ≡ true) entries
  pub group : DirectoriesAscend 0 entries
