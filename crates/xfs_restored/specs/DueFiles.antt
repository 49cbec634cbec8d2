-- The files of a volume that is rebuilt: those that are kept, with what their slots then state, and those that are made anew.
use Rattle.std.specs.Prelude.{ℕ, Bool, true, ◌==◌, if◌then◌else◌, List, [], ◌∷◌, map}
use Rattle.std.specs.List.{flat_map}
use Rattle.xfs_word.specs.Crc.{little_field_of}
use Rattle.xfs_disk.specs.Blocks.{Image}
use Rattle.xfs_disk.specs.Lists.{is_among}
use Rattle.xfs_disk.specs.declared.stamp.Stamp.{Stamp}
use Rattle.xfs_geom.specs.Volumes.{Volume}
use Rattle.xfs_claims.specs.Ranks.{placed_by_number}
use Rattle.xfs_image.specs.Slots.{cluster_inodes, slot_bytes}
use Rattle.xfs_volume.specs.declared.cores.Core.{Core}
use Rattle.xfs_volume.specs.declared.directories.DirRec.{DirRec}
use Rattle.xfs_volume.specs.declared.files.FileRec.{FileRec}
use Rattle.xfs_volume.specs.Rest.{no_rest}
use Rattle.xfs_salvage.specs.declared.found.Salvaged.{Salvaged}
use Rattle.xfs_rename.specs.xfs_request.Fresh.{new_root_core, new_system_core}
use Rattle.xfs_rename.specs.xfs_request.Slots.{is_bare, links_due, own_blocks, state_at}
use Rattle.xfs_rename.specs.xfs_request.declared.seen.SlotSeen.{SlotSeen}

-- the checksum of the slot of an inode
abbrev pub stated_crc : Volume → Image → ℕ → ℕ
stated_crc v image ino = little_field_of (slot_bytes v image ino) 100 4

-- the core of a file that has so many names and does not wait to be removed, sealed with a checksum
abbrev pub linked_core : Core → ℕ → ℕ → Core
linked_core core nlink crc = record core { nlink = nlink; next_unlinked = 0xffff_ffff; crc = crc }

-- and that of one without attributes, which has so many blocks
abbrev pub plain_core : Core → ℕ → ℕ → Core
plain_core core nblocks crc = record core { nblocks = nblocks; anextents = 0; aformat = 2; crc = crc }

-- the core that a kept file then has: so many names; and where its attributes are dropped, no attributes and so many blocks
abbrev pub due_core : Bool → ℕ → ℕ → ℕ → Core → Core
due_core bare nblocks nlink crc core = record core {
  nblocks = if bare then nblocks else core.nblocks;
  anextents = if bare then 0 else core.anextents;
  aformat = if bare then 2 else core.aformat;
  nlink = nlink;
  next_unlinked = 0xffff_ffff;
  crc = crc;
}

-- a kept file as it then reads; the checksums of slots are handed in, by inode
abbrev pub due_file : ℕ → Salvaged → List SlotSeen → (ℕ → ℕ) → FileRec → FileRec
due_file root kept seen crc f =
    record f { core = due_core (is_bare (state_at seen f.ino)) (own_blocks f) (links_due root kept.files kept.entries f) (crc f.ino) f.core }

-- a file that is made anew: the root without entries, or an empty system inode
abbrev pub new_core : Volume → Stamp → ℕ → Core
new_core v s ino = if ino == v.rootino then new_root_core v s else new_system_core v s ino

abbrev pub fresh_file : Volume → Stamp → (ℕ → ℕ) → ℕ → FileRec
fresh_file v s crc ino = record {
  ino = ino;
  core = record (new_core v s ino) { crc = crc ino };
  extents = [];
  rest = no_rest;
}

-- files that stand by number, with some others at their places
abbrev pub with_new : List FileRec → List FileRec → List FileRec
with_new [] files = files
with_new (f ∷ new) files = with_new new (placed_by_number (λ (x : FileRec). x.ino) f files)

-- all files, by number
unfoldable pub rebuilt_files : Volume → Stamp → Salvaged → List SlotSeen → (ℕ → ℕ) → List FileRec
rebuilt_files v s kept seen crc = with_new (map (fresh_file v s crc) kept.fresh) (map (due_file v.rootino kept seen crc) kept.files)

-- the inodes of the kept clusters, by number
unfoldable pub kept_inodes : Volume → Salvaged → List ℕ
kept_inodes v kept = flat_map (cluster_inodes v) kept.clusters

-- the directories: those that are kept, and a root that is made anew, which is whole and its own parent
abbrev pub fresh_root : ℕ → DirRec
fresh_root root = record { ino = root; parent = root; whole = true }

abbrev pub rebuilt_dirs : ℕ → Salvaged → List DirRec
rebuilt_dirs root kept = if is_among kept.fresh root then placed_by_number (λ (d : DirRec). d.ino) (fresh_root root) kept.dirs else kept.dirs
