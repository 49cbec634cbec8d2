-- What is decided about the names of all files.
use Rattle.std.specs.Prelude.{ℕ, ◌+◌, ◌==◌, ◌&&◌, Bool, true, false, not, if◌then◌else◌, List, [], ◌∷◌, ◌++◌, map, length, zero, suc, Option, None, Some, codes, decimal, option_map, is_some}
use Rattle.std.specs.List.{list_any, filter, filter_map, find}
use Rattle.std.specs.Str.{bytes_eq}
use Rattle.xfs_dirdata.specs.declared.records.EntryRec.{EntryRec}
use Rattle.xfs_links.specs.declared.records.NodeRec.{NodeRec}
use Rattle.xfs_links.specs.declared.walk.Attached.{Attached}
use Rattle.xfs_links.specs.Entries.{is_directory_number, is_reserved_inode, candidate_entries}
use Rattle.xfs_links.specs.Walk.{walk, attached_parent}

-- an entry among these names the file
abbrev pub has_entry : List EntryRec → ℕ → Bool
has_entry es n = list_any (λ e. e.ino == n) es

-- the directories that the entries of directory d name, in their order
abbrev pub named_by : List NodeRec → List EntryRec → ℕ → List ℕ
named_by files es d = map (λ e. e.ino) (filter (λ e. e.dir == d && is_directory_number files e.ino) es)

-- the directories by number
abbrev pub directory_numbers : List NodeRec → List ℕ
directory_numbers files = map (λ f. f.ino) (filter (λ f. f.kind == 4) files)

-- the starting points: the root, the directories that no candidate names, all other directories
abbrev pub starts : List NodeRec → List EntryRec → ℕ → List ℕ
starts files es root =
    (root ∷ filter (λ n. not (n == root) && not (has_entry es n)) (directory_numbers files))
    ++ filter (λ n. not (n == root) && has_entry es n) (directory_numbers files)

-- the directories as they are attached
abbrev pub attached : List NodeRec → List EntryRec → ℕ → List Attached
attached files es root = walk (named_by files es) (length (directory_numbers files)) root [] (starts files es root)

-- whether d is the parent
abbrev pub is_parent : ℕ → Option ℕ → Bool
is_parent d None = false
is_parent d (Some p) = p == d

-- an entry stays: one that names a directory where its own is the parent and no entry that stays before it names the directory
abbrev pub stays : List NodeRec → List Attached → List EntryRec → EntryRec → Bool
stays files s before e =
    if is_directory_number files e.ino then (is_parent e.dir (attached_parent s e.ino) && not (has_entry before e.ino)) else true

-- those that stay, behind those that stay before them
abbrev pub staying : List NodeRec → List Attached → List EntryRec → List EntryRec → List EntryRec
staying files s before [] = []
staying files s before (e ∷ es) =
    if stays files s before e then (e ∷ staying files s (before ++ e ∷ []) es) else staying files s before es

-- a directory without a parent, or a file that is neither a directory nor reserved and that no entry names
abbrev pub is_orphan : List NodeRec → ℕ → List Attached → List EntryRec → ℕ → Bool
is_orphan files root s es n =
    if is_directory_number files n then not (is_some (attached_parent s n)) else (not (is_reserved_inode root n) && not (has_entry es n))

abbrev pub lost_found : List ℕ
lost_found = codes "lost+found"

abbrev pub names_lost_found : ℕ → EntryRec → Bool
names_lost_found root e = e.dir == root && bytes_eq e.name lost_found

-- the entry `lost+found` of the root, where it names no directory
abbrev pub is_in_the_way : List NodeRec → ℕ → EntryRec → Bool
is_in_the_way files root e = names_lost_found root e && not (is_directory_number files e.ino)

-- the entries that stay, without one that is in the way of orphans
abbrev pub cleared_entries : List NodeRec → ℕ → List Attached → List EntryRec → List EntryRec
cleared_entries files root s es =
    if list_any (λ f. is_orphan files root s es f.ino) files then filter (λ e. not (is_in_the_way files root e)) es else es

-- the orphans by number
abbrev pub orphans : List NodeRec → ℕ → List Attached → List EntryRec → List ℕ
orphans files root s es = filter (is_orphan files root s es) (map (λ f. f.ino) files)

-- each directory that has a parent, with the parent
abbrev pub parents : List NodeRec → List Attached → List (ℕ × ℕ)
parents files s = filter_map (λ n. option_map (λ p. (n, p)) (attached_parent s n)) (directory_numbers files)

-- the directory lost+found of the root
abbrev pub lost_of : List NodeRec → ℕ → List EntryRec → Option ℕ
lost_of files root es = option_map (λ e. e.ino) (find (λ e. names_lost_found root e && is_directory_number files e.ino) es)

-- the name is that of an entry of the directory
abbrev pub is_taken_name : List EntryRec → Option ℕ → List ℕ → Bool
is_taken_name es lost name = list_any (λ e. is_parent e.dir lost && bytes_eq e.name name) es

-- the k-th name that an orphan may get: its number, `n.1`, `n.2` and so on
abbrev pub lost_name : ℕ → ℕ → List ℕ
lost_name n zero = decimal n
lost_name n (suc k) = decimal n ++ codes "." ++ decimal (suc k)

-- the first of the names from the k-th on that is free
abbrev pub free_name : (List ℕ → Bool) → ℕ → ℕ → ℕ → List ℕ
free_name taken n zero k = lost_name n k
free_name taken n (suc steps) k = if taken (lost_name n k) then free_name taken n steps (k + 1) else lost_name n k

-- the orphans with their names
abbrev pub named_orphans : List NodeRec → ℕ → List Attached → List EntryRec → List (ℕ × List ℕ)
named_orphans files root s es =
    map (λ n. (n, free_name (is_taken_name es (lost_of files root es)) n (length es) 0)) (orphans files root s es)

-- the directories as they are attached, from the entries as they are listed
abbrev pub attached_directories : List NodeRec → List EntryRec → ℕ → List Attached
attached_directories files entries root = attached files (candidate_entries files root entries) root

-- the entries that stay in the end
abbrev pub kept_entries : List NodeRec → List EntryRec → ℕ → List EntryRec
kept_entries files entries root =
    cleared_entries files root (attached_directories files entries root) (staying files (attached_directories files entries root) [] (candidate_entries files root entries))
