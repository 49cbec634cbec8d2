-- What is looked at by number stands in the order of that number.
use Rattle.std.specs.Prelude.{ℕ, ◌<◌, ◌≤◌, ◌^◌, slice_index, ◌≡◌, ◌==◌, Bool, true, List, map, filter, length}
use Rattle.std.specs.List.{list_all, list_any}
use Rattle.std.specs.List.Sorted.{IsNonDecreasingBy}
use Rattle.xfs_dirdata.specs.declared.records.EntryRec.{EntryRec}
use Rattle.xfs_volume.specs.declared.directories.DirRec.{DirRec}
use Rattle.xfs_volume.specs.declared.files.FileRec.{FileRec}
use Rattle.xfs_naming.specs.declared.runs.Link.{Link}
use Rattle.xfs_naming.specs.declared.kinds.FileKind.{FileKind}
use Rattle.xfs_naming.specs.declared.naming.Names.{Names}
use Rattle.xfs_naming.specs.Lawful.{IsReached}
use Rattle.xfs_naming.specs.Naming.{entries_to, is_directory_at, is_reached, NumbersAscend, numbers_of}
use Rattle.xfs_naming.specs.Private.Kinds.{kind_of}

-- the link that an entry is
abbrev pub link_of : EntryRec → Link
link_of e = record { target = e.ino; dir = e.dir }

-- the links to a number
abbrev pub links_to : List Link → ℕ → List Link
links_to links ino = filter (λ (l : Link). l.target == ino) links

-- there is a link for each entry: as many to a number, and from the same directories
pub record AreLinks (entries : List EntryRec) (links : List Link) : Type 0 where
  pub as_many : (ino : ℕ) → length (links_to links ino) ≡ length (entries_to entries ino)
  pub alike : (ino : ℕ) (passes : ℕ → Bool)
      → list_all (λ (l : Link). passes l.dir) (links_to links ino) ≡ list_all (λ (e : EntryRec). passes e.dir) (entries_to entries ino)

-- all that is looked at by number is in its order
pub record AreOrdered (root : ℕ) (files : List FileRec) (entries : List EntryRec) (dirs : List DirRec) (links : List Link) : Type 0 where
  pub low : root < 2 ^ 32
  pub by_file : IsNonDecreasingBy (λ (f : FileRec). f.ino) files
  pub by_directory : IsNonDecreasingBy (λ (e : EntryRec). e.dir) entries
  pub by_number : IsNonDecreasingBy (λ (d : DirRec). d.ino) dirs
  pub by_target : IsNonDecreasingBy (λ (l : Link). l.target) links
  pub linked : AreLinks entries links

-- files ascend, and what is asked of them again and again is of the same files, in their order
pub record IsOrdered (names : Names) : Type 0 where
  pub lists : AreOrdered names.root names.files.now names.entries.now names.dirs.now names.links.now
  pub ascend : NumbersAscend 0 (numbers_of names.files.now)
  pub by_kind : IsNonDecreasingBy (λ (k : FileKind). k.ino) names.kinds.now
  pub kinds : names.kinds.now ≡ map kind_of names.files.now

-- a list of numbers has those directories that are reached from the root
abbrev pub IsWalked : Names → List ℕ → Type 0
IsWalked names reached = (ino : ℕ) → is_directory_at names.files.now ino ≡ true
    → list_any (λ (x : ℕ). ino == x) reached ≡ is_reached names.dirs.now names.entries.now names.root ino

-- no way to a directory needs more steps than there are directories
abbrev pub HasShortWays : Names → Type 0
HasShortWays names = (ino : ℕ) → is_directory_at names.files.now ino ≡ true → IsReached names.entries.now names.root ino
    → is_reached names.dirs.now names.entries.now names.root ino ≡ true

-- a number has to stand behind those that are less and before those that are greater
abbrev pub IsPlaceFor : List ℕ → ℕ → ℕ → Type 0
IsPlaceFor numbers number place =
    (place ≤ length numbers) × ((k : ℕ) → k < place → slice_index numbers k < number)
    × ((k : ℕ) → place ≤ k → k < length numbers → number < slice_index numbers k)
