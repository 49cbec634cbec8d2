-- The laws of names: directories are whole and name files in use; they hang together as one tree below the root; each file has
-- as many links as names (chapters "Directories" and "On-disk Inode").
use Rattle.std.specs.Prelude.{ℕ, zero, suc, Bool, true, not, ◌+◌, ◌≤◌, ◌==◌, ◌&&◌, ◌||◌, ◌≡◌, nat_le, nat_lt, if◌then◌else◌, List, [], ◌∷◌, ◌++◌, map, filter, length, count_by, Option, Some, None}
use Rattle.std.specs.List.{list_all, list_any}
use Rattle.std.specs.Str.{bytes_eq}
use Rattle.xfs_disk.specs.Lists.{with_number}
use Rattle.xfs_dirdata.specs.declared.records.EntryRec.{EntryRec}
use Rattle.xfs_volume.specs.xfs_geom.First.{first_false}
use Rattle.xfs_volume.specs.declared.directories.DirRec.{DirRec}
use Rattle.xfs_volume.specs.declared.files.FileRec.{FileRec}
use Rattle.xfs_volume.specs.declared.findings.Law.{Law}
use Rattle.xfs_volume.specs.Laws.{law_at}
use Rattle.xfs_volume.specs.Names.{is_name, type_of, is_directory, entry_type}

-- the two inodes behind the root are the system's own
abbrev pub is_system : ℕ → ℕ → Bool
is_system root ino = ino == root + 1 || ino == root + 2

-- a file with this number is in use
abbrev pub is_in_use : List FileRec → ℕ → Bool
is_in_use files ino = list_any (λ (f : FileRec). f.ino == ino) files

-- a directory with this number is in use
abbrev pub is_directory_at : List FileRec → ℕ → Bool
is_directory_at files ino = list_any (λ (f : FileRec). f.ino == ino && is_directory f) files

-- the entries of a directory, and those that name a file
abbrev pub entries_in : List EntryRec → ℕ → List EntryRec
entries_in entries dir = filter (λ (e : EntryRec). e.dir == dir) entries

abbrev pub entries_to : List EntryRec → ℕ → List EntryRec
entries_to entries ino = filter (λ (e : EntryRec). e.ino == ino) entries

-- no two entries have one name
abbrev pub names_differ : List EntryRec → Bool
names_differ [] = true
names_differ (e ∷ es) = not (list_any (λ (other : EntryRec). bytes_eq e.name other.name) es) && names_differ es

-- an entry names a file in use that is not one of the system's
abbrev pub has_target : ℕ → List FileRec → EntryRec → Bool
has_target root files e = is_in_use files e.ino && not (is_system root e.ino)

-- an entry states the type of the file that it names, or none
abbrev pub has_type : List FileRec → EntryRec → Bool
has_type files e = e.ftype == 0 || list_any (λ (f : FileRec). f.ino == e.ino && entry_type (type_of f) == e.ftype) files

-- the tests by number: the number of the first that fails, or 0
abbrev pub number_or_zero : Option ℕ → ℕ
number_or_zero None = 0
number_or_zero (Some number) = number

abbrev pub first_failing : List (ℕ × Bool) → ℕ
first_failing tests = number_or_zero (first_false tests)

-- the seventh law: a directory is whole, its names can be names and differ, its targets are in use, its types are right
abbrev pub directory_tests : ℕ → List FileRec → List EntryRec → DirRec → List (ℕ × Bool)
directory_tests root files own d =
    (1, d.whole)
    ∷ (2, list_all (λ (e : EntryRec). is_name e.name) own && names_differ own)
    ∷ (3, list_all (has_target root files) own)
    ∷ (4, list_all (has_type files) own)
    ∷ []

abbrev pub directory_at : ℕ → List FileRec → List EntryRec → DirRec → Law
directory_at root files entries d =
    law_at 7 d.ino (first_failing (directory_tests root files (entries_in entries d.ino) d)) 0

-- a directory is reached from the root in at most so many steps, each an entry of a directory that is reached
abbrev pub reached_in : ℕ → List EntryRec → ℕ → ℕ → Bool
reached_in zero entries root ino = ino == root
reached_in (suc n) entries root ino =
    ino == root || list_any (λ (e : EntryRec). e.ino == ino && reached_in n entries root e.dir) entries

-- no way to a directory needs more steps than there are directories
abbrev pub is_reached : List DirRec → List EntryRec → ℕ → ℕ → Bool
is_reached dirs entries root ino = reached_in (length dirs) entries root ino

-- the parent that a directory states
abbrev pub states_parent : List DirRec → ℕ → ℕ → Bool
states_parent dirs ino parent = list_any (λ (d : DirRec). d.ino == ino && d.parent == parent) dirs

-- the eighth law for the root: no entry names it, it is its own parent, it is a directory
abbrev pub root_tests : ℕ → List FileRec → List EntryRec → List DirRec → List (ℕ × Bool)
root_tests root files entries dirs =
    (1, length (entries_to entries root) == 0)
    ∷ (2, not (is_directory_at files root) || states_parent dirs root root)
    ∷ (3, is_directory_at files root)
    ∷ []

-- for another directory: one entry names it, that entry's directory is its parent, it is reached from the root
abbrev pub other_directory_tests : ℕ → List EntryRec → List DirRec → ℕ → List (ℕ × Bool)
other_directory_tests root entries dirs ino =
    (1, length (entries_to entries ino) == 1)
    ∷ (2, list_all (λ (e : EntryRec). states_parent dirs ino e.dir) (entries_to entries ino))
    ∷ (3, is_reached dirs entries root ino)
    ∷ []

-- for a file that is no directory: an entry names it, unless it is one of the system's
abbrev pub other_file_tests : ℕ → List EntryRec → ℕ → List (ℕ × Bool)
other_file_tests root entries ino = (4, is_system root ino || nat_le 1 (length (entries_to entries ino))) ∷ []

abbrev pub place_tests : ℕ → List FileRec → List EntryRec → List DirRec → ℕ → List (ℕ × Bool)
place_tests root files entries dirs ino =
    if ino == root then root_tests root files entries dirs
    else (if is_directory_at files ino then other_directory_tests root entries dirs ino else other_file_tests root entries ino)

abbrev pub place_law : ℕ → List FileRec → List EntryRec → List DirRec → ℕ → Law
place_law root files entries dirs ino = law_at 8 ino (first_failing (place_tests root files entries dirs ino)) 0

-- the numbers of all files in use, and of some that should be
abbrev pub numbers_of : List FileRec → List ℕ
numbers_of files = map (λ (f : FileRec). f.ino) files

-- the ninth law: two links and one for each directory in it, for a directory; a link for each name, for another file
abbrev pub links_of : List FileRec → List EntryRec → FileRec → ℕ
links_of files entries f =
    if is_directory f then 2 + count_by (λ (e : EntryRec). is_directory_at files e.ino) (entries_in entries f.ino)
    else length (entries_to entries f.ino)

-- a file of the system's own is regular and empty: no bytes, no data, no tree of extents
abbrev pub is_empty_regular : FileRec → Bool
is_empty_regular f = type_of f == 8 && f.core.size == 0 && length f.extents == 0 && length f.rest.tree == 0

-- the links that a number is found with, and those that it should have
abbrev pub links_at : ℕ → List FileRec → List EntryRec → Option FileRec → ℕ → Law
links_at root files entries None ino = law_at 9 ino 0 1
links_at root files entries (Some f) ino =
    if is_system root ino then (if is_empty_regular f then law_at 9 ino f.core.nlink 1 else law_at 9 ino 0 1)
    else law_at 9 ino f.core.nlink (links_of files entries f)

abbrev pub file_at : List FileRec → ℕ → Option FileRec
file_at [] ino = None
file_at (f ∷ fs) ino = if f.ino == ino then Some f else file_at fs ino

-- the three laws of names, directory by directory and file by file
unfoldable pub directory_laws : ℕ → List FileRec → List EntryRec → List DirRec → List Law
directory_laws root files entries dirs = map (directory_at root files entries) dirs

unfoldable pub place_laws : ℕ → List FileRec → List EntryRec → List DirRec → List Law
place_laws root files entries dirs = map (place_law root files entries dirs) (with_number root (numbers_of files))

unfoldable pub link_laws : ℕ → List FileRec → List EntryRec → List Law
link_laws root files entries =
    map (λ ino. links_at root files entries (file_at files ino) ino)
    (with_number (root + 1) (with_number (root + 2) (numbers_of files)))

unfoldable pub naming_laws : ℕ → List FileRec → List EntryRec → List DirRec → List Law
naming_laws root files entries dirs =
    directory_laws root files entries dirs ++ place_laws root files entries dirs ++ link_laws root files entries

-- the numbers ascend
abbrev pub NumbersAscend : ℕ → List ℕ → Type 0
NumbersAscend low [] = Unit {0}
NumbersAscend low (x ∷ xs) = (low ≤ x) × NumbersAscend (x + 1) xs

-- the entries stand by directory, in the order of the directories
abbrev pub AreGrouped : List DirRec → List EntryRec → Type 0
AreGrouped [] entries = entries ≡ []
AreGrouped (d ∷ ds) entries =
    (own : List EntryRec) × (rest : List EntryRec) × (entries ≡ own ++ rest)
    × (list_all (λ (e : EntryRec). e.dir == d.ino) own ≡ true) × AreGrouped ds rest

-- files ascend by number; there is a record for each directory among them, and no other; the entries are of these directories,
-- grouped in their order
pub record AreNamed (files : List FileRec) (entries : List EntryRec) (dirs : List DirRec) : Type 0 where
  pub files_ascend : NumbersAscend 0 (numbers_of files)
  pub directories : map (λ (d : DirRec). d.ino) dirs ≡ map (λ (f : FileRec). f.ino) (filter is_directory files)
  pub grouped : AreGrouped dirs entries
