-- What is wanted of slots once names are settled: what was wanted of them before, and what names change in it (chapter "On-disk Inode").
use Rattle.std.specs.Prelude.{ℕ, Bool, ◌+◌, ◌==◌, ◌||◌, nat_lt, if◌then◌else◌, List, [], ◌∷◌, ◌++◌, map, take, drop, Option, Some, None}
use Rattle.std.specs.List.{filter, flat_map, prefix_len, range_with_len}
use Rattle.std.specs.Option.{is_some}
use Rattle.xfs_disk.specs.declared.stamp.Stamp.{Stamp}
use Rattle.xfs_geom.specs.Features.{or_else}
use Rattle.xfs_geom.specs.Volumes.{Volume}
use Rattle.xfs_volume.specs.declared.cores.Core.{Core}
use Rattle.xfs_volume.specs.declared.files.FileRec.{FileRec}
use Rattle.xfs_empty.specs.Inodes.{fresh_core, time_of}
use Rattle.xfs_inodebuild.specs.declared.forks.ForkWanted.{ForkWanted}
use Rattle.xfs_render.specs.declared.wanted_slots.SlotBase.{SlotBase}
use Rattle.xfs_render.specs.declared.wanted_slots.SlotBase.TheVariants.{Free, Fresh, Kept}
use Rattle.xfs_render.specs.declared.wanted_slots.SlotWanted.{SlotWanted}
use Rattle.xfs_changes.specs.declared.changes.SlotChange.{SlotChange}
use Rattle.xfs_changes.specs.declared.forks.DirectoryFork.{DirectoryFork}
use Rattle.xfs_changes.specs.declared.lost_found.Lost.{Lost}

-- a change beside what was wanted of the slot, and where nothing was
abbrev pub base_or : SlotBase → Option SlotBase → SlotBase
base_or base None = base
base_or base (Some other) = other

abbrev pub changed : SlotChange → SlotWanted → SlotWanted
changed c w = record { ino = w.ino; base = base_or w.base c.base; drop_attrs = w.drop_attrs; fork = or_else c.fork w.fork; nlink = or_else c.nlink w.nlink }

abbrev pub changed_alone : SlotChange → SlotWanted
changed_alone c = record { ino = c.ino; base = base_or Kept c.base; drop_attrs = None; fork = c.fork; nlink = c.nlink }

-- a change at the first of some slots where that is its own, else in front of it
abbrev pub put_first : SlotChange → (List SlotWanted → List SlotWanted) → List SlotWanted → List SlotWanted
put_first c next [] = changed_alone c ∷ next []
put_first c next (w ∷ ws) = if w.ino == c.ino then changed c w ∷ next ws else changed_alone c ∷ next (w ∷ ws)

-- how many slots stand in front of a change
abbrev pub slots_before : SlotChange → List SlotWanted → ℕ
slots_before c ws = prefix_len (λ (w : SlotWanted). nat_lt w.ino c.ino) ws

-- slots by inode, with changes by inode, each at its place
unfoldable pub with_changes : List SlotChange → List SlotWanted → List SlotWanted
with_changes [] ws = ws
with_changes (c ∷ cs) ws = take (slots_before c ws) ws ++ put_first c (with_changes cs) (drop (slots_before c ws) ws)

-- how many links a file states, where it is there
abbrev pub first_links : List FileRec → Option ℕ
first_links [] = None
first_links (f ∷ fs) = Some f.core.nlink

abbrev pub links_held_at : List FileRec → ℕ → Option ℕ
links_held_at files ino = first_links (filter (λ (f : FileRec). f.ino == ino) files)

-- a number of links is set where the file has another, or was not there before
abbrev pub links_set : Option ℕ → ℕ → Option ℕ
links_set None due = Some due
links_set (Some held) due = if held == due then None else Some due

-- the fork of a directory that is built anew
abbrev pub first_fork : List DirectoryFork → Option ForkWanted
first_fork [] = None
first_fork (f ∷ fs) = Some f.fork

abbrev pub fork_at : List DirectoryFork → ℕ → Option ForkWanted
fork_at forks ino = first_fork (filter (λ (f : DirectoryFork). f.ino == ino) forks)

-- a new lost+found: a directory with permissions 0700, that of whoever owns the root of the system
abbrev pub lost_core : Volume → Stamp → ℕ → Core
lost_core v s ino = record (fresh_core v (time_of s) s.generation ino 0x41c0) { format = 1; nlink = 2; size = 6 }

abbrev pub base_made : Volume → Stamp → Lost → ℕ → Option SlotBase
base_made v s l ino = if l.made then (if l.new == ino then Some (Fresh (lost_core v s ino)) else None) else None

abbrev pub free_change : ℕ → SlotChange
free_change ino = record { ino = ino; base = Some Free; fork = None; nlink = None }

-- the other inodes of a new cluster, whose first is lost+found, are free
abbrev pub free_changes : Lost → ℕ → List SlotChange
free_changes l ino = flat_map (λ (cluster : ℕ). if l.new == ino then map free_change (range_with_len (ino + 1) 31) else []) l.added

module _ (v : Volume) (s : Stamp) (l : Lost) (files : List FileRec) (forks : List DirectoryFork) where
  -- what names change in the slot of a file that is to have so many links
  abbrev pub change_of : ℕ × ℕ → SlotChange
  change_of p = record { ino = p.0; base = base_made v s l p.0; fork = fork_at forks p.0; nlink = links_set (links_held_at files p.0) p.1 }

  abbrev pub changes_something : SlotChange → Bool
  changes_something c = is_some c.base || (is_some c.fork || is_some c.nlink)

  abbrev pub change_listed : ℕ × ℕ → List SlotChange
  change_listed p = (if changes_something (change_of p) then change_of p ∷ [] else []) ++ free_changes l p.0

  -- the changes of all files by number, each with its links
  unfoldable pub changes_of : List (ℕ × ℕ) → List SlotChange
  changes_of links = flat_map change_listed links
