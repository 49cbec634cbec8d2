-- What names change in slots, slot by slot.
use Rattle.std.specs.Prelude.{ℕ, ◌⊎◌, Bool, ◌+◌, ◌*◌, ◌≤◌, ◌<◌, ◌==◌, if◌then◌else◌, List, [], ◌∷◌, length, Option, Some, None}
use Rattle.xfs_disk.specs.declared.stamp.Stamp.{Stamp}
use Rattle.xfs_geom.specs.Volumes.{Volume}
use Rattle.xfs_volume.specs.declared.files.FileRec.{FileRec}
use Rattle.xfs_inodebuild.specs.declared.forks.ForkWanted.{ForkWanted}
use Rattle.xfs_render.specs.declared.wanted_slots.SlotBase.TheVariants.{Fresh}
use Rattle.xfs_render.specs.declared.wanted_slots.SlotWanted.{SlotWanted}
use Rattle.xfs_rename.specs.xfs_changes.Slots.{base_made, changed, changed_alone, fork_at, links_held_at, links_set, lost_core}
use Rattle.xfs_rename.specs.xfs_changes.declared.changes.SlotChange.{SlotChange}
use Rattle.xfs_rename.specs.xfs_changes.declared.forks.DirectoryFork.{DirectoryFork}
use Rattle.xfs_rename.specs.xfs_changes.declared.lost_found.Lost.{Lost}

-- the change of a slot, where there is one
abbrev pub first_change : List SlotChange → ℕ → Option SlotChange
first_change [] ino = None
first_change (c ∷ cs) ino = if c.ino == ino then Some c else first_change cs ino

-- what was wanted of a slot, with its change
abbrev pub with_change : Option SlotChange → Option SlotWanted → Option SlotWanted
with_change None wanted = wanted
with_change (Some c) None = Some (changed_alone c)
with_change (Some c) (Some w) = Some (changed c w)

-- changes, and slots, ascend by inode from a number on
abbrev pub ChangesAscend : ℕ → List SlotChange → Type 0
ChangesAscend low [] = Unit {0}
ChangesAscend low (c ∷ cs) = (low ≤ c.ino) × ChangesAscend (c.ino + 1) cs

abbrev pub SlotsAscend : ℕ → List SlotWanted → Type 0
SlotsAscend low [] = Unit {0}
SlotsAscend low (w ∷ ws) = (low ≤ w.ino) × SlotsAscend (w.ino + 1) ws

-- how many inodes the changes of a file take: its own, and behind that of lost+found the other ones of its new cluster
abbrev pub inodes_taken : Lost → ℕ → ℕ
inodes_taken l ino = if l.new == ino then 1 + 31 * length l.added else 1

-- files ascend by number, each behind what the changes of the one in front of it take
abbrev pub LinksAscend : Lost → ℕ → List (ℕ × ℕ) → Type 0
LinksAscend l low [] = Unit {0}
LinksAscend l low (p ∷ ps) = (low ≤ p.0) × LinksAscend l (p.0 + inodes_taken l p.0) ps

-- a change, where it changes something
abbrev pub change_if : Bool → SlotChange → Option SlotChange
change_if some c = if some then Some c else None

-- what is wanted of the slot of lost+found where it is made in a slot of which nothing was wanted before, by its number and its links
abbrev pub lost_slot : Volume → Stamp → List FileRec → List DirectoryFork → ℕ × ℕ → SlotWanted
lost_slot v s files forks p = record {
  ino = p.0;
  base = Fresh (lost_core v s p.0);
  drop_attrs = None;
  fork = fork_at forks p.0;
  nlink = links_set (links_held_at files p.0) p.1;
}

-- what names change in the slot of a directory that is built anew, by its number and its links
abbrev pub directory_change : Volume → Stamp → Lost → List FileRec → ForkWanted → ℕ × ℕ → SlotChange
directory_change v s l files fork p = record { ino = p.0; base = base_made v s l p.0; fork = Some fork; nlink = links_set (links_held_at files p.0) p.1 }

-- a number is none of lost+found and, where its cluster is new, of the other inodes there
abbrev pub LeavesRoom : Lost → ℕ → Type 0
LeavesRoom l ino = (ino < l.new) ⊎ (l.new + inodes_taken l l.new ≤ ino)
