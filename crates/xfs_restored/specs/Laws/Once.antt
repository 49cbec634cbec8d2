-- Laws about the blocks of a plan. The function does nothing; its contract is the laws.
use Rattle.std.specs.Prelude.{ℕ, List, ◌++◌}
use Rattle.xfs_disk.specs.Blocks.{Image}
use Rattle.xfs_disk.specs.declared.stamp.Stamp.{Stamp}
use Rattle.xfs_geom.specs.declared.geometry.Geometry.{Geometry}
use Rattle.xfs_render.specs.Drafts.{row_places}
use Rattle.xfs_render.specs.Plans.{IsOnce, planned}
use Rattle.xfs_rename.specs.xfs_rebuild.Rebuilds.{Ground, IsPlannedOn}
use Rattle.xfs_rename.specs.xfs_rebuild.declared.planning.Rebuilt.{Rebuilt}

-- No block is planned twice in the plan of a rebuild (`rebuilds`), nor in what is left of it to write (`left`).
abbrev pub RebuildsPlanEachBlockOnceRebuilds : Type 0
RebuildsPlanEachBlockOnceRebuilds = (g : Geometry) (sector : List ℕ) (s : Stamp) (image : Image) (on : Ground) (r : Rebuilt) (is : IsPlannedOn g sector s image on r)
    → IsOnce (planned is.planned.plan)

-- of the same, `left`
abbrev pub RebuildsPlanEachBlockOnceLeft : Type 0
RebuildsPlanEachBlockOnceLeft = (g : Geometry) (sector : List ℕ) (s : Stamp) (image : Image) (on : Ground) (r : Rebuilt) → IsPlannedOn g sector s image on r
    → IsOnce (row_places (r.fresh ++ r.in_place))
