-- What slots read as in which a file is made anew: a system inode, the root, lost+found.
use Rattle.std.proofs.Common.{◌≡◌, ℕ, Bool, true, false, ◌^◌, ◌<◌, if◌then◌else◌, List, [], map, Some, None, refl, arith}
use Rattle.xfs_disk.specs.Blocks.{Image}
use Rattle.xfs_disk.specs.declared.stamp.Stamp.{Stamp}
use Rattle.xfs_word.specs.Crc.{little_field_of}
use Rattle.xfs_word.specs.declared.extents.Extent.{Extent}
use Rattle.xfs_geom.specs.Volumes.{Volume}
use Rattle.xfs_inode.specs.Named.{slot_reads}
use Rattle.xfs_inode.specs.declared.files.FileRead.TheVariants as Reads
use Rattle.xfs_inodebuild.specs.declared.forks.ForkWanted.{ForkWanted}
use Rattle.xfs_volume.specs.declared.cores.Core.{Core}
use Rattle.xfs_volume.specs.declared.files.FileRec.{FileRec}
use Rattle.xfs_render.specs.Slots.{IsMadeSlot}
use Rattle.xfs_render.specs.declared.wanted_slots.SlotBase.TheVariants.{Fresh}
use Rattle.xfs_render.specs.declared.wanted_slots.SlotWanted.{SlotWanted}
use Rattle.xfs_rename.specs.xfs_request.Fresh.{new_root_core, new_root_fork, new_root_slot, new_system_core, new_system_slot}
use Rattle.xfs_rename.specs.xfs_rebuild.Names.{new_file}
use Rattle.xfs_restored.specs.DueFiles.{linked_core}
use Rattle.xfs_restored.proofs.Changes.{links_read}
use Rattle.xfs_restored.proofs.Fresh.{empty_file, made_root, root_made_reads, system_made_reads}
use Rattle.xfs_rename.specs.xfs_built.Extents.{extent_of_run}
use Rattle.xfs_rename.specs.xfs_changes.Forks.{extents_fork, short_fork}
use Rattle.xfs_rename.specs.xfs_built.Asks.{stands_in_blocks}
use Rattle.xfs_rename.specs.xfs_built.Directories.{BuiltRuns}
use Rattle.xfs_restored.specs.Reading.{IsFreshDirectory, forked_core, forked_file, fresh_directory_slot}
use Rattle.xfs_restored.proofs.FreshSlots.{fresh_blocks, fresh_made, fresh_short}
use Rattle.xfs_restored.specs.Relinking.{extents_built}
use Rattle.xfs_restored.proofs.RebuiltSlots.{IsBuiltFor, fork_beside}

-- a file that is made anew, by its core and its number of names
abbrev pub made_file : Core → ℕ → ℕ → FileRec
made_file core k crc = new_file core.ino (linked_core core k crc)

-- and with the data fork that was built for it
abbrev pub made_with_fork : Core → ℕ → ℕ → ForkWanted → List Extent → FileRec
made_with_fork core k crc fork es = forked_file (made_file core k crc) (forked_core (linked_core core k crc) fork crc) es

-- an empty system inode
abbrev pub system_due : Volume → Stamp → ℕ → ℕ → SlotWanted
system_due v s ino k = record { ino = ino; base = Fresh (new_system_core v s ino); drop_attrs = None; fork = None; nlink = Some k }

pub system_reads : (v : Volume) (s : Stamp) (image : Image) (generation ino k : ℕ) (old new : List ℕ) → IsMadeSlot v generation (system_due v s ino k) old new
    → slot_reads v image ino new ≡ Reads.File (made_file (new_system_core v s ino) k (little_field_of new 100 4))
system_reads v s image generation ino k old new made =
    let alone : IsMadeSlot v generation (new_system_slot v s ino) old made.forked =
    record { based = made.based; bare = made.bare; forked = made.forked; base = made.base; attrs = made.attrs; fork = made.fork; links = refl } in
    links_read v ino k made.forked new made.links image (empty_file (new_system_core v s ino) (little_field_of made.forked 100 4))
    (system_made_reads v s image generation ino old made.forked alone)

-- the root, without entries
abbrev pub root_due : Volume → Stamp → ℕ → SlotWanted
root_due v s k = record { ino = v.rootino; base = Fresh (new_root_core v s); drop_attrs = None; fork = Some (new_root_fork v); nlink = Some k }

pub root_reads : (v : Volume) (s : Stamp) (image : Image) (generation k : ℕ) (old new : List ℕ) → v.rootino < 2 ^ 32 → IsMadeSlot v generation (root_due v s k) old new
    → slot_reads v image v.rootino new ≡ Reads.File (made_file (new_root_core v s) k (little_field_of new 100 4))
root_reads v s image generation k old new low made =
    let alone : IsMadeSlot v generation (new_root_slot v s) old made.forked =
    record { based = made.based; bare = made.bare; forked = made.forked; base = made.base; attrs = made.attrs; fork = made.fork; links = refl } in
    links_read v v.rootino k made.forked new made.links image (empty_file (new_root_core v s) (little_field_of made.forked 100 4))
    (root_made_reads v s image made.forked (made_root v s generation old made.forked low alone))

-- a directory that is made anew and built
module _ (v : Volume) (image : Image) (generation : ℕ) (core : Core) (k : ℕ) (d : BuiltRuns) (old new : List ℕ) (is : IsFreshDirectory core) (built : IsBuiltFor v 336 d) where
  abbrev crc : ℕ
  crc = little_field_of new 100 4

  abbrev ReadsMade : ForkWanted → List Extent → Type 0
  ReadsMade fork es = slot_reads v image core.ino new ≡ Reads.File (made_with_fork core k crc fork es)

  blocks_read : stands_in_blocks d.directory ≡ true → IsMadeSlot v generation (fresh_directory_slot core (extents_fork v 0 d.runs d.directory) (Some k)) old new
      → ReadsMade (extents_fork v 0 d.runs d.directory) (map (extent_of_run v) d.runs)
  blocks_read stood made =
      let ext = built.extents' stood in
      let count = ext.count in
      fresh_blocks v image core k new is d.directory d.runs (fresh_made v core (extents_fork v 0 d.runs d.directory) is.last generation (Some k) old new made)
      ext.extents' ext.fit (built.few stood) built.data' (omega (arith, count))

  short_reads : stands_in_blocks d.directory ≡ false → IsMadeSlot v generation (fresh_directory_slot core (short_fork 0 d.directory) (Some k)) old new
      → ReadsMade (short_fork 0 d.directory) []
  short_reads fell made =
      fresh_short v image core k new is d.directory (fresh_made v core (short_fork 0 d.directory) is.last generation (Some k) old new made) (built.short' fell)

  pub built_reads : IsMadeSlot v generation (fresh_directory_slot core (fork_beside v 0 d) (Some k)) old new → ReadsMade (fork_beside v 0 d) (extents_built v d)
  built_reads made = by_case (stands_in_blocks d.directory) refl made
    where
      by_case : (t : Bool) → stands_in_blocks d.directory ≡ t
          → IsMadeSlot v generation (fresh_directory_slot core (if t then extents_fork v 0 d.runs d.directory else short_fork 0 d.directory) (Some k)) old new
          → ReadsMade (if t then extents_fork v 0 d.runs d.directory else short_fork 0 d.directory) (if t then map (extent_of_run v) d.runs else [])
      by_case true stood slot = blocks_read stood slot
      by_case false fell slot = short_reads fell slot
