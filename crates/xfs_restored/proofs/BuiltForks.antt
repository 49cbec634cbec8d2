-- The fork that is wanted of a slot stands in it, and a file with the fork that was built for a directory is that of the directory.
use Rattle.std.proofs.Common.{◌≡◌, ℕ, Bool, true, false, if◌then◌else◌, inr, List, [], length, map, Option, Some, None, refl, ap, ◌∙◌, subst, arith}
use Rattle.std.specs.Prelude.{MatchOption}
use Rattle.xfs_disk.specs.Blocks.{Image}
use Rattle.xfs_word.specs.Field.{part_of}
use Rattle.xfs_word.specs.declared.extents.Extent.{Extent}
use Rattle.xfs_geom.specs.Volumes.{Volume}
use Rattle.xfs_inodebuild.specs.declared.forks.ForkWanted.{ForkWanted}
use Rattle.xfs_image.specs.Slots.{slot_bytes}
use Rattle.xfs_volume.specs.declared.files.FileRec.{FileRec}
use Rattle.xfs_render.specs.Slots.{IsMadeSlot, SetsFork, SetsLinks}
use Rattle.xfs_render.specs.declared.wanted_slots.SlotBase.TheVariants.{Kept}
use Rattle.xfs_render.specs.declared.wanted_slots.SlotWanted.{SlotWanted}
use Rattle.xfs_rename.specs.xfs_changes.Forks.{attribute_blocks_at, extents_fork, short_fork}
use Rattle.xfs_rename.specs.xfs_built.Extents.{extent_of_run}
use Rattle.xfs_rename.specs.xfs_built.Asks.{stands_in_blocks}
use Rattle.xfs_rename.specs.xfs_built.Directories.{BuiltRuns, IsBuiltFile, IsFileOf, IsShortFileOf}
use Rattle.xfs_restored.specs.RunForks.{fork_of_runs}
use Rattle.xfs_restored.specs.Relinking.{with_built}
use Rattle.xfs_restored.proofs.WantedCases.{kept_change}

-- a fork that is set stands, also where the number of names is set behind it
pub links_leave : (v : Volume) (ino n : ℕ) (nlink : Option ℕ) (forked new : List ℕ) → MatchOption nlink (new ≡ forked) (λ k. SetsLinks v ino k forked new) → part_of new 176 n ≡ part_of forked 176 n
links_leave v ino n None forked new same = ap (λ (slot : List ℕ). part_of slot 176 n) same
links_leave v ino n (Some k) forked new sets = (sets.others 176 n (inr (omega arith), (inr (omega arith), (inr (omega arith), tt)))).1

pub fork_put : (v : Volume) (generation : ℕ) (w : SlotWanted) (fork : ForkWanted) (old new : List ℕ) → w.fork ≡ Some fork → IsMadeSlot v generation w old new
    → part_of new 176 (length fork.bytes) ≡ fork.bytes
fork_put v generation w fork old new wanted made =
    let sets : SetsFork v w.ino fork made.bare made.forked = subst (λ (o : Option ForkWanted). MatchOption o (made.forked ≡ made.bare) (λ f. SetsFork v w.ino f made.bare made.forked)) wanted made.fork in
    links_leave v w.ino (length fork.bytes) w.nlink made.forked new made.links ∙ sets.put

-- a fork is wanted of a slot that is kept
pub fork_changes : (ino : ℕ) (drop : Option ℕ) (fork : ForkWanted) (nlink : Option ℕ)
    → kept_change ino drop (Some fork) nlink ≡ Some (record { ino = ino; base = Kept; drop_attrs = drop; fork = Some fork; nlink = nlink })
fork_changes ino None fork nlink = refl
fork_changes ino (Some m) fork nlink = refl

-- the file of a directory that was built
module _ (v : Volume) (now : Image) (old : List FileRec) (crc : ℕ → ℕ) (d : BuiltRuns) (x : FileRec) (number : x.ino ≡ d.directory.ino) where
  abbrev by_form : Bool → ForkWanted
  by_form t =
      if t then extents_fork v (attribute_blocks_at old d.directory.ino) d.runs d.directory else short_fork (attribute_blocks_at old d.directory.ino) d.directory

  abbrev extents_by : Bool → List Extent
  extents_by t = if t then map (extent_of_run v) d.runs else []

  in_blocks : stands_in_blocks d.directory ≡ true → IsFileOf v d.directory d.runs (with_built v old crc x (Some d))
  in_blocks found = record {
    ino' = number;
    format' = ap (λ (t : Bool). (by_form t).format) found;
    size' = ap (λ (t : Bool). (by_form t).size) found;
    extents' = ap extents_by found;
  }

  in_slot : part_of (slot_bytes v now x.ino) 176 (length d.directory.image.short.items) ≡ d.directory.image.short.items → stands_in_blocks d.directory ≡ false
      → IsShortFileOf v now d.directory (with_built v old crc x (Some d))
  in_slot put short = record {
    ino' = number;
    format' = ap (λ (t : Bool). (by_form t).format) short;
    bytes' = ap (λ (t : Bool). part_of (slot_bytes v now x.ino) 176 (by_form t).size) short ∙ put;
  }

  pub built_file : (stands_in_blocks d.directory ≡ false → part_of (slot_bytes v now x.ino) 176 (length d.directory.image.short.items) ≡ d.directory.image.short.items)
      → IsBuiltFile v now d (with_built v old crc x (Some d))
  built_file put = record { blocks = in_blocks; short = λ off. in_slot (put off) off }

pub short_bytes_of : (v : Volume) (old : List FileRec) (d : BuiltRuns) → stands_in_blocks d.directory ≡ false → (fork_of_runs v old d).bytes ≡ d.directory.image.short.items
short_bytes_of v old d short =
    ap (λ (t : Bool). (if t then extents_fork v (attribute_blocks_at old d.directory.ino) d.runs d.directory else short_fork (attribute_blocks_at old d.directory.ino) d.directory).bytes) short
