-- The plan of an empty volume.
use Rattle.std.specs.Prelude.{◌≡◌, ℕ, List, ◌++◌, Ok}
use Rattle.xfs_disk.specs.declared.stamp.Stamp.{Stamp}
use Rattle.xfs_geom.specs.Volumes.{volume_of}
use Rattle.xfs_geom.specs.declared.geometry.Geometry.{Geometry}
use Rattle.xfs_place.specs.Counts.{placed_counts}
use Rattle.xfs_place.specs.Standing.{AreOfPool}
use Rattle.xfs_place.specs.Wanted.{CanBeKept, ArePlaced, FindsNoRoom, all_kept, kept_runs}
use Rattle.xfs_place.specs.declared.faults.Unplaced.{Unplaced}
use Rattle.xfs_place.specs.declared.placed.Placed.{Placed}
use Rattle.xfs_place.specs.declared.wanted.Wanted.{Wanted}
use Rattle.xfs_render.specs.Rendering.{IsRendered}
use Rattle.xfs_render.specs.declared.bytes.Bytes.{Bytes}
use Rattle.xfs_render.specs.declared.plan.Plan.{Plan}
use Rattle.xfs_empty.specs.Bytes.{IsEmptyBytes}
use Rattle.xfs_empty.specs.Placing.{empty_wanted}

-- what is placed for a request stands: its runs are those that its objects find, the trees of each group stand on the lowest blocks that
-- are left, and the counts are what the volume then holds
pub record StandsFor (w : Wanted) (p : Placed) : Type 0 where
  pub runs' : all_kept w ≡ Ok (kept_runs w ++ p.runs)
  pub groups' : ArePlaced (volume_of w.geometry) (kept_runs w ++ p.runs) w.reserved w.inodes w.geometry.agcount p.groups
  pub apart : CanBeKept (volume_of w.geometry) (kept_runs w ++ p.runs)
  pub pool : AreOfPool (volume_of w.geometry) (kept_runs w ++ p.runs) w.reserved w.inodes w.geometry.agcount p.groups
  pub counts' : p.counts ≡ placed_counts w.inodes p.groups

-- a plan that renders what is placed for a request
pub record IsPlanFor (w : Wanted) (b : Bytes) (plan : Plan) : Type 0 where
  pub placed : Placed
  pub stands : StandsFor w placed
  pub rendered : IsRendered w placed b plan

-- nothing of a request is without room
pub record HasRoom (w : Wanted) : Type 0 where
  pub all : (what : Unplaced) → FindsNoRoom w what → ⊥

-- the plan of an empty volume with this superblock
pub record IsEmptyPlan (g : Geometry) (sector : List ℕ) (s : Stamp) (plan : Plan) : Type 0 where
  pub bytes : Bytes
  pub made : IsEmptyBytes g sector s bytes
  pub is : IsPlanFor (empty_wanted g) bytes plan
