-- What is asked of a volume that is rebuilt round what is kept of it.
use Rattle.std.specs.Prelude.{ℕ, Bool, true, false, ◌+◌, List, [], filter, length}
use Rattle.xfs_disk.specs.declared.stamp.Stamp.{Stamp}
use Rattle.xfs_geom.specs.Volumes.{volume_of}
use Rattle.xfs_geom.specs.declared.geometry.Geometry.{Geometry}
use Rattle.xfs_place.specs.declared.wanted.Wanted.{Wanted}
use Rattle.xfs_render.specs.declared.wanted_slots.SlotBase.{SlotBase}
use Rattle.xfs_render.specs.declared.wanted_slots.SlotBase.TheVariants.{Free, Fresh, Kept}
use Rattle.xfs_render.specs.declared.wanted_slots.SlotWanted.{SlotWanted}
use Rattle.xfs_salvage.specs.Kept.{taken_of}
use Rattle.xfs_salvage.specs.declared.found.Salvaged.{Salvaged}
use Rattle.xfs_request.specs.Chunks.{inodes_wanted}

-- the blocks of kept clusters and files stand; the chunks are those of the kept clusters; nothing new is placed on reserved blocks
unfoldable pub volume_wanted : Geometry → Salvaged → List ℕ → Wanted
volume_wanted g kept reserved = record {
  geometry = g;
  taken = taken_of (volume_of g) kept.clusters kept.files;
  new = [];
  reserved = reserved;
  from = 0;
  spared_from = [];
  takes_spared = false;
  objects = [];
  inodes = inodes_wanted (volume_of g) kept;
}

-- the inodes that the volume then has in use
abbrev pub kept_count : Salvaged → ℕ
kept_count kept = length kept.files + length kept.fresh

-- the slots that are freed
abbrev pub is_freed_base : SlotBase → Bool
is_freed_base Kept = false
is_freed_base Free = true
is_freed_base (Fresh core) = false

abbrev pub is_freed : SlotWanted → Bool
is_freed slot = is_freed_base slot.base

abbrev pub cleared_count : List SlotWanted → ℕ
cleared_count slots = length (filter is_freed slots)
