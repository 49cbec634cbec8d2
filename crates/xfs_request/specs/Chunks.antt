-- The chunks of a volume that has some clusters (chapter "AG Inode Management").
use Rattle.std.specs.Prelude.{ℕ, Bool, not, ◌+◌, ◌-◌, ◌*◌, ◌/◌, ◌==◌, ◌&&◌, ◌||◌, if◌then◌else◌, List, [], ◌∷◌, map}
use Rattle.std.specs.List.{flat_map, range_with_len}
use Rattle.xfs_disk.specs.Lists.{is_among}
use Rattle.xfs_geom.specs.Conversions.{group_length}
use Rattle.xfs_geom.specs.Volumes.{Volume}
use Rattle.xfs_geom.specs.declared.records.InoRec.{InoRec}
use Rattle.xfs_kinds.specs.InodeTrees.{is_missing}
use Rattle.xfs_salvage.specs.xfs_laws.Counting.{bits_below, count_below, inode_number}
use Rattle.xfs_naming.specs.Naming.{is_in_use}
use Rattle.xfs_place.specs.declared.wanted.GroupInodes.{GroupInodes}
use Rattle.xfs_salvage.specs.declared.found.Salvaged.{Salvaged}

-- a bit for each four inodes that are missing: the first half of them, the second, or none
abbrev pub holes : Bool → Bool → ℕ
holes first second = (if first then 0 else 0x00ff) + (if second then 0 else 0xff00)

-- a chunk has 64 inodes, or 32 where half of them are missing
abbrev pub slot_count : ℕ → ℕ
slot_count holemask = if holemask == 0 then 64 else 32

-- an inode is in use: a kept file has its number, or it is made anew
abbrev pub is_inode_used : Salvaged → ℕ → Bool
is_inode_used kept ino = is_in_use kept.files ino || is_among kept.fresh ino

module _ (v : Volume) (kept : Salvaged) where
  -- chunk c of a group has the eight AG blocks from 8 c on; its first cluster is kept, or the one four blocks behind it
  abbrev pub has_kept_cluster : ℕ → ℕ → ℕ → Bool
  has_kept_cluster ag c half = is_among kept.clusters (ag * v.agblocks + 8 * c + half)

  abbrev pub has_chunk : ℕ → ℕ → Bool
  has_chunk ag c = has_kept_cluster ag c 0 || has_kept_cluster ag c 4

  abbrev pub holes_of : ℕ → ℕ → ℕ
  holes_of ag c = holes (has_kept_cluster ag c 0) (has_kept_cluster ag c 4)

  -- an inode of a chunk is there and not in use
  abbrev pub is_idle : ℕ → ℕ → ℕ → ℕ → Bool
  is_idle ag startino holemask i = not (is_missing holemask i || is_inode_used kept (inode_number v ag (startino + i)))

  abbrev pub counted_chunk : ℕ → ℕ → ℕ → InoRec
  counted_chunk ag startino holemask = record {
    startino = startino;
    holemask = holemask;
    count = slot_count holemask;
    freecount = count_below (is_idle ag startino holemask) 64;
    free = bits_below (is_idle ag startino holemask) 64;
  }

  unfoldable pub kept_chunk : ℕ → ℕ → InoRec
  kept_chunk ag c = counted_chunk ag (64 * c) (holes_of ag c)

  -- the chunks of a group that have a kept cluster, and those of each group
  abbrev pub chunk_listed : ℕ → ℕ → List InoRec
  chunk_listed ag c = if has_chunk ag c then kept_chunk ag c ∷ [] else []

  unfoldable pub kept_chunks : ℕ → List InoRec
  kept_chunks ag = flat_map (chunk_listed ag) (range_with_len 1 (group_length v ag / 8 - 1))

  abbrev pub group_asked : ℕ → GroupInodes
  group_asked ag = record { records = kept_chunks ag }

  unfoldable pub inodes_wanted : List GroupInodes
  inodes_wanted = map group_asked (range_with_len 0 v.agcount)
