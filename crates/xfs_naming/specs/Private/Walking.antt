-- A walk from the root over the entries: what is reached, and what waits.
use Rattle.std.specs.Prelude.{ℕ, ◌+◌, ◌<◌, ◌≤◌, ◌≡◌, ◌==◌, ◌⊎◌, Bool, true, not, ◌&&◌, ◌||◌, List, length}
use Rattle.std.specs.List.{list_any, IsDistinct}
use Rattle.std.specs.Bool.{nat_eq}
use Rattle.xfs_dirdata.specs.declared.records.EntryRec.{EntryRec}
use Rattle.xfs_volume.specs.declared.directories.DirRec.{DirRec}
use Rattle.xfs_volume.specs.declared.files.FileRec.{FileRec}
use Rattle.xfs_naming.specs.Naming.{is_directory_at, entries_in, reached_in}

-- a number is in a list
abbrev pub is_walked : List ℕ → ℕ → Bool
is_walked xs x = list_any (nat_eq x) xs

-- an entry of a directory names the number
abbrev pub leads : List EntryRec → ℕ → ℕ → Bool
leads entries dir ino = list_any (λ (e : EntryRec). e.ino == ino) (entries_in entries dir)

-- the directories that are named are reached too, and those that were not wait
pub record HasMarked (files : List FileRec) (named : ℕ → Bool) (seen more stack next : List ℕ) : Type 0 where
  pub reached : (x : ℕ) → is_walked more x ≡ (is_walked seen x || (is_directory_at files x && named x))
  pub waiting : (x : ℕ) → is_walked next x ≡ (is_walked stack x || ((is_directory_at files x && named x) && not (is_walked seen x)))
  pub alike : length next + length seen ≡ length stack + length more
  pub longer : length seen ≤ length more
  pub grown : (x : ℕ) → is_walked more x ≡ true → (is_walked seen x ≡ true) ⊎ (length seen < length more)
  pub unique : IsDistinct nat_eq seen → IsDistinct nat_eq more

-- all that is reached is reached by few steps, and what it leads to is reached too, or it waits
pub record IsWalking (root : ℕ) (files : List FileRec) (entries : List EntryRec) (dirs : List DirRec) (seen stack : List ℕ) : Type 0 where
  pub from_root : is_walked seen root ≡ true
  pub inside : (x : ℕ) → is_walked seen x ≡ true → (x == root || is_directory_at files x) ≡ true
  pub waiting : (x : ℕ) → is_walked stack x ≡ true → is_walked seen x ≡ true
  pub unique : IsDistinct nat_eq seen
  pub few : length seen ≤ length dirs + 1
  pub sound : (m x : ℕ) → length seen ≤ m + 1 → is_walked seen x ≡ true → reached_in m entries root x ≡ true
  pub closed : (x y : ℕ) → is_walked seen x ≡ true → leads entries x y ≡ true → is_directory_at files y ≡ true → (is_walked seen y || is_walked stack x) ≡ true
