-- The names that are wanted: which entries each directory is to have, whose parent is which, and how many links each file has
-- (chapters "Directories" and "On-disk Inode").
use Rattle.std.specs.Prelude.{◌≡◌, ℕ, ◌+◌, ◌==◌, nat_lt, if◌then◌else◌, List, [], ◌∷◌, map, filter, length}
use Rattle.xfs_dirdata.specs.declared.records.EntryRec.{EntryRec}
use Rattle.xfs_volume.specs.Names.{entry_type}
use Rattle.xfs_naming.specs.Naming.{entries_in, entries_to}
use Rattle.xfs_links.specs.declared.records.NodeRec.{NodeRec}
use Rattle.xfs_links.specs.declared.records.DecidedNames.{DecidedNames}
use Rattle.xfs_links.specs.Entries.{is_directory_number, is_reserved_inode}
use Rattle.xfs_links.specs.Connected.{directory_numbers, parents, attached_directories, kept_entries}
use Rattle.xfs_links.specs.Together.{orphans_of, old_lost, adds_lost, entries_together}
use Rattle.xfs_links.specs.Settled.{by_directory, parent_due}

-- the names are those that were decided for these files and entries
pub record AreDecided (nodes : List NodeRec) (listed : List EntryRec) (root : ℕ) (names : DecidedNames) : Type 0 where
  pub entries : names.entries ≡ kept_entries nodes listed root
  pub parents_are : names.parents ≡ parents nodes (attached_directories nodes listed root)
  pub orphans : names.orphans ≡ orphans_of nodes listed root
  pub lost : names.lost ≡ old_lost nodes listed root

-- the kind of the file with a number, 4 for a directory; 0 where there is none
abbrev pub kind_at : List NodeRec → ℕ → ℕ
kind_at [] n = 0
kind_at (f ∷ fs) n = if f.ino == n then f.kind else kind_at fs n

-- files by number with a directory more, at its place
abbrev pub directory_node : ℕ → NodeRec
directory_node n = record { ino = n; kind = 4 }

abbrev pub with_directory : ℕ → List NodeRec → List NodeRec
with_directory n [] = directory_node n ∷ []
with_directory n (f ∷ fs) = if nat_lt f.ino n then f ∷ with_directory n fs else directory_node n ∷ f ∷ fs

-- the files that there are to be: those that were kept, and lost+found where it is new
abbrev pub wanted_nodes : List NodeRec → List EntryRec → ℕ → ℕ → List NodeRec
wanted_nodes nodes listed root new = if adds_lost nodes listed root then with_directory new nodes else nodes

-- an entry that states the type of the file that it names
abbrev pub with_type : List NodeRec → EntryRec → EntryRec
with_type nodes e = record { dir = e.dir; name = e.name; ino = e.ino; ftype = entry_type (kind_at nodes e.ino) }

-- all names together with their types, one directory after the other: in each the entries that stay; in lost+found behind them
-- the orphans by number; in the root, last, lost+found where it is new
abbrev pub wanted_entries : List NodeRec → List EntryRec → ℕ → ℕ → List EntryRec
wanted_entries nodes listed root new =
    map (with_type (wanted_nodes nodes listed root new)) (by_directory (entries_together nodes listed root new) (directory_numbers (wanted_nodes nodes listed root new)))

-- each directory with its parent
abbrev pub with_parent : List NodeRec → List EntryRec → ℕ → ℕ → ℕ → ℕ × ℕ
with_parent nodes listed root new d = (d, parent_due nodes listed root new d)

abbrev pub wanted_parents : List NodeRec → List EntryRec → ℕ → ℕ → List (ℕ × ℕ)
wanted_parents nodes listed root new = map (with_parent nodes listed root new) (directory_numbers (wanted_nodes nodes listed root new))

-- the links of a file: for a directory two and one for each directory in it; one for a system inode; else one for each name
abbrev pub link_count : List NodeRec → List EntryRec → ℕ → NodeRec → ℕ
link_count nodes entries root f =
    if f.kind == 4 then 2 + length (filter (λ (e : EntryRec). is_directory_number nodes e.ino) (entries_in entries f.ino))
    else (if is_reserved_inode root f.ino then 1 else length (entries_to entries f.ino))

abbrev pub with_links : List NodeRec → List EntryRec → ℕ → NodeRec → ℕ × ℕ
with_links nodes entries root f = (f.ino, link_count nodes entries root f)

abbrev pub wanted_links : List NodeRec → List EntryRec → ℕ → ℕ → List (ℕ × ℕ)
wanted_links nodes listed root new =
    map (with_links (wanted_nodes nodes listed root new) (wanted_entries nodes listed root new) root) (wanted_nodes nodes listed root new)
