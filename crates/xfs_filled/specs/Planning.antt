-- The plan of a new volume with files.
use Rattle.std.specs.Prelude.{◌≡◌, ℕ, ◌+◌, ◌≤◌, ◌<◌, ◌⊎◌, List, length}
use Rattle.xfs_disk.specs.declared.stamp.Stamp.{Stamp}
use Rattle.xfs_geom.specs.Volumes.{volume_of}
use Rattle.xfs_geom.specs.declared.geometry.Geometry.{Geometry}
use Rattle.xfs_place.specs.Chunks.{asked_rooms}
use Rattle.xfs_place.specs.Objects.{ServeAsks, asks_of}
use Rattle.xfs_place.specs.Wanted.{FindsNoRoom}
use Rattle.xfs_place.specs.declared.faults.PlaceFault.{PlaceFault}
use Rattle.xfs_place.specs.declared.faults.Unplaced.{Unplaced}
use Rattle.xfs_place.specs.declared.placed.Placed.{Placed}
use Rattle.xfs_render.specs.Rendering.{IsRendered}
use Rattle.xfs_render.specs.declared.plan.Plan.{Plan}
use Rattle.xfs_empty.specs.Planning.{HasRoom, StandsFor}
use Rattle.xfs_proto.specs.declared.protofile.ProtoNode.{ProtoNode}
use Rattle.xfs_filled.specs.Chunks.{chunk_starts, further_ask}
use Rattle.xfs_filled.specs.Directories.{HaveDirectoryImages}
use Rattle.xfs_filled.specs.Numbers.{chunk_count}
use Rattle.xfs_filled.specs.Wanting.{filled_bytes, filled_wanted}

-- how many chunks have room behind the first
abbrev pub further_rooms : Geometry → ℕ → ℕ
further_rooms g files = length (asked_rooms (further_ask g files))

-- the volume has room for as many chunks as so many files need, and for all else that is placed
pub record HoldsFiles (g : Geometry) (ns : List ProtoNode) (contents : List (List ℕ)) : Type 0 where
  pub chunks : chunk_count (length ns) ≤ further_rooms g (length ns) + 1
  pub room : HasRoom (filled_wanted g ns contents)

-- chunks are without room, or behind them the first of all else that is placed
abbrev pub LacksRoom : Geometry → List ProtoNode → List (List ℕ) → Unplaced → Type 0
LacksRoom g ns contents what =
    ((what ≡ Unplaced.Chunk) × (further_rooms g (length ns) + 1 < chunk_count (length ns)))
    ⊎ ((chunk_count (length ns) ≤ further_rooms g (length ns) + 1) × FindsNoRoom (filled_wanted g ns contents) what)

-- memory is wanting, or just this of all that is placed behind the chunks has no room
abbrev pub IsSiteCause : Geometry → List ProtoNode → List (List ℕ) → PlaceFault → Type 0
IsSiteCause g ns contents fault = (fault ≡ PlaceFault.NoMemory) ⊎ ((what : Unplaced) × (fault ≡ PlaceFault.NoRoom what) × FindsNoRoom (filled_wanted g ns contents) what)

-- memory is wanting, or just this has no room
abbrev pub IsFilledCause : Geometry → List ProtoNode → List (List ℕ) → PlaceFault → Type 0
IsFilledCause g ns contents fault = (fault ≡ PlaceFault.NoMemory) ⊎ ((what : Unplaced) × (fault ≡ PlaceFault.NoRoom what) × LacksRoom g ns contents what)

-- the plan of a new volume with these files, of which each regular one has these bytes, and with this superblock
pub record IsFilledPlan (g : Geometry) (sector : List ℕ) (s : Stamp) (ns : List ProtoNode) (contents : List (List ℕ)) (plan : Plan) : Type 0 where
  pub placed : Placed
  pub served : ServeAsks (asks_of (filled_wanted g ns contents).objects) placed.cuts placed.runs
  pub stands : StandsFor (filled_wanted g ns contents) placed
  pub rendered : IsRendered (filled_wanted g ns contents) placed (filled_bytes g sector s ns contents placed.runs) plan
  pub images : HaveDirectoryImages (volume_of g) (chunk_starts g (length ns)) ns
