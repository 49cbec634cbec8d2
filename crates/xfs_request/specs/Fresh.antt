-- The slots of a root and of system inodes that are made anew, as in an empty volume (chapter "On-disk Inode").
use Rattle.std.specs.Prelude.{ℕ, ◌+◌, ◌==◌, if◌then◌else◌, [], Some, None}
use Rattle.xfs_disk.specs.declared.stamp.Stamp.{Stamp}
use Rattle.xfs_dirdata.specs.Bytes.{short_bytes}
use Rattle.xfs_geom.specs.Volumes.{Volume}
use Rattle.xfs_inodebuild.specs.declared.forks.ForkWanted.{ForkWanted}
use Rattle.xfs_render.specs.declared.wanted_slots.SlotBase.TheVariants.{Fresh}
use Rattle.xfs_render.specs.declared.wanted_slots.SlotWanted.{SlotWanted}
use Rattle.xfs_volume.specs.declared.cores.Core.{Core}
use Rattle.xfs_empty.specs.Inodes.{fresh_core, time_of}

-- the root: a directory with permissions 0755, in short form of six bytes without entries, whose parent it is
abbrev pub new_root_core : Volume → Stamp → Core
new_root_core v s = record (fresh_core v (time_of s) s.generation v.rootino 0x41ed) { format = 1; nlink = 2; size = 6 }

abbrev pub new_root_fork : Volume → ForkWanted
new_root_fork v = record { format = 1; size = 6; nblocks = 0; nextents = 0; bytes = short_bytes v.rootino [] }

abbrev pub new_root_slot : Volume → Stamp → SlotWanted
new_root_slot v s = record { ino = v.rootino; base = Fresh (new_root_core v s); drop_attrs = None; fork = Some (new_root_fork v); nlink = None }

-- the two system inodes: regular files without permissions; that of the bitmap has a flag that says that it is new
abbrev pub new_system_core : Volume → Stamp → ℕ → Core
new_system_core v s ino = record (fresh_core v (time_of s) s.generation ino 0x8000) { flags = if ino == v.rootino + 1 then 4 else 0 }

abbrev pub new_system_slot : Volume → Stamp → ℕ → SlotWanted
new_system_slot v s ino = record { ino = ino; base = Fresh (new_system_core v s ino); drop_attrs = None; fork = None; nlink = None }

abbrev pub new_slot : Volume → Stamp → ℕ → SlotWanted
new_slot v s ino = if ino == v.rootino then new_root_slot v s else new_system_slot v s ino
