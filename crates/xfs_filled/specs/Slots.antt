-- The slots of the chunks of a new volume (chapter "On-disk Inode").
use Rattle.std.specs.Prelude.{ℕ, ◌-◌, ◌+◌, ◌*◌, ◌==◌, nat_lt, if◌then◌else◌, List, length, map, Option, Some, None}
use Rattle.std.specs.List.{range_with_len}
use Rattle.xfs_disk.specs.declared.stamp.Stamp.{Stamp}
use Rattle.xfs_geom.specs.Volumes.{Volume}
use Rattle.xfs_geom.specs.declared.records.Run.{Run}
use Rattle.xfs_inodebuild.specs.declared.forks.ForkWanted.{ForkWanted}
use Rattle.xfs_render.specs.declared.wanted_slots.SlotBase.TheVariants.{Fresh}
use Rattle.xfs_render.specs.declared.wanted_slots.SlotWanted.{SlotWanted}
use Rattle.xfs_volume.specs.declared.cores.Core.{Core}
use Rattle.xfs_word.specs.declared.extents.Extent.{Extent}
use Rattle.xfs_empty.specs.Inodes.{fresh_core, system_slot, time_of, unused_slot}
use Rattle.xfs_proto.specs.declared.protofile.ProtoNode.{ProtoNode}
use Rattle.xfs_filled.specs.FileTrees.{node_at}
use Rattle.xfs_filled.specs.Directories.{made_directory_at}
use Rattle.xfs_filled.specs.Forks.{extents_of_owner, fork_of_kind}
use Rattle.xfs_filled.specs.Numbers.{inode_at, number_of}
use Rattle.xfs_filled.specs.Objects.{content_at}
use Rattle.xfs_filled.specs.declared.directories.MadeDirectory.{MadeDirectory}

-- what is wanted of the slot of a file with this core and fork
abbrev pub made_slot : ℕ → Core → ForkWanted → SlotWanted
made_slot ino core fork = record { ino = ino; base = Fresh core; drop_attrs = None; fork = Some fork; nlink = None }

-- a file has one name; a directory has one as its own entry too, and one as the parent of each directory in it
abbrev pub links_of_made : Option MadeDirectory → ℕ
links_of_made None = 1
links_of_made (Some d) = d.links

-- the place of the file that has inode j of all chunks
abbrev pub place_of_index : ℕ → ℕ
place_of_index j = if j == 0 then 0 else j - 2

-- the core of the file at a place; its fork states what goes with its content
abbrev pub core_at : Volume → Stamp → List ℕ → List ProtoNode → ℕ → Core
core_at v s starts ns k = record (fresh_core v (time_of s) s.generation (number_of v starts k) (node_at ns k).mode) {
  uid = (node_at ns k).uid;
  gid = (node_at ns k).gid;
  nlink = links_of_made (made_directory_at v starts ns k);
}

-- its fork, where it has these extents
abbrev pub fork_of_place : Volume → List ℕ → List ProtoNode → List (List ℕ) → List Extent → ℕ → ForkWanted
fork_of_place v starts ns contents extents k = fork_of_kind (node_at ns k).kind (made_directory_at v starts ns k) (content_at contents k) extents

module _ (v : Volume) (s : Stamp) (starts : List ℕ) (ns : List ProtoNode) (contents : List (List ℕ)) (runs : List Run) where
  abbrev pub slot_of_place : ℕ → SlotWanted
  slot_of_place k =
      made_slot (number_of v starts k) (core_at v s starts ns k) (fork_of_place v starts ns contents (extents_of_owner v (number_of v starts k) runs) k)

  -- inode j of all chunks: the root, the two system inodes, the other files, and behind these free inodes
  abbrev pub slot_of_index : ℕ → SlotWanted
  slot_of_index j =
      if j == 1 then system_slot v s (inode_at v starts 1)
      else if j == 2 then system_slot v s (inode_at v starts 2)
      else if nat_lt j (length ns + 2) then slot_of_place (place_of_index j)
      else unused_slot (inode_at v starts j)

  -- all slots, by number
  unfoldable pub all_slots : List SlotWanted
  all_slots = map slot_of_index (range_with_len 0 (64 * length starts))
