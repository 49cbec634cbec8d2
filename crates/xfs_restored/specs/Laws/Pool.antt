-- Laws about the blocks that a rebuild takes. The function does nothing; its contract is the laws.
use Rattle.std.specs.Prelude.{◌≡◌, ◌<◌, ℕ, false, List, None}
use Rattle.std.specs.List.{All}
use Rattle.xfs_disk.specs.Blocks.{Image}
use Rattle.xfs_disk.specs.declared.stamp.Stamp.{Stamp}
use Rattle.xfs_geom.specs.Volumes.{volume_of}
use Rattle.xfs_geom.specs.declared.geometry.Geometry.{Geometry}
use Rattle.xfs_image.specs.Claims.{claims}
use Rattle.xfs_volume.specs.declared.files.FileRec.{FileRec}
use Rattle.xfs_render.specs.Drafts.{row_places}
use Rattle.xfs_render.specs.Plans.{planned}
use Rattle.xfs_salvage.specs.Kept.{taken_of}
use Rattle.xfs_rename.specs.xfs_rebuild.Rebuilds.{Ground, IsPlannedOn}
use Rattle.xfs_rename.specs.xfs_rebuild.declared.planning.Rebuilt.{Rebuilt}
use Rattle.xfs_rename.specs.xfs_made.Unused.{IsOfLog, IsUnusedBlock}
use Rattle.xfs_restored.specs.InPlace.{IsInPlace}

-- The first blocks of the plan of a rebuild are blocks that nothing kept has, without a fixed use and not reserved (`fresh`);
-- written in place are first blocks of groups, blocks of kept clusters, and the log (`in_place`), which is left alone where it stays
-- (`log`). All lie in the volume (`inside`), and no kept file claims one (`claimed`).
abbrev pub RebuildsUseThePoolFresh : Type 0
RebuildsUseThePoolFresh = (g : Geometry) (sector : List ℕ) (s : Stamp) (image : Image) (on : Ground) (r : Rebuilt) (is : IsPlannedOn g sector s image on r)
    → All (IsUnusedBlock (volume_of g) (taken_of (volume_of g) on.kept.clusters on.kept.files) on.reserved) (row_places is.planned.plan.fresh)

-- of the same, `in_place`
abbrev pub RebuildsUseThePoolInPlace : Type 0
RebuildsUseThePoolInPlace = (g : Geometry) (sector : List ℕ) (s : Stamp) (image : Image) (on : Ground) (r : Rebuilt) (is : IsPlannedOn g sector s image on r)
    → All (IsInPlace (volume_of g) on.kept.clusters) (row_places is.planned.plan.in_place)

-- of the same, `log`
abbrev pub RebuildsUseThePoolLog : Type 0
RebuildsUseThePoolLog = (g : Geometry) (sector : List ℕ) (s : Stamp) (image : Image) (on : Ground) (r : Rebuilt) (is : IsPlannedOn g sector s image on r)
    → is.bytes.cycle ≡ None → All (λ block. IsOfLog (volume_of g) block → ⊥) (planned is.planned.plan)

-- of the same, `inside`
abbrev pub RebuildsUseThePoolInside : Type 0
RebuildsUseThePoolInside = (g : Geometry) (sector : List ℕ) (s : Stamp) (image : Image) (on : Ground) (r : Rebuilt) (is : IsPlannedOn g sector s image on r)
    → All (λ block. block < g.dblocks) (planned is.planned.plan)

-- of the same, `claimed`
abbrev pub RebuildsUseThePoolClaimed : Type 0
RebuildsUseThePoolClaimed = (g : Geometry) (sector : List ℕ) (s : Stamp) (image : Image) (on : Ground) (r : Rebuilt) (is : IsPlannedOn g sector s image on r)
    → All (λ (f : FileRec). All (λ block. claims (volume_of g) f block ≡ false) (planned is.planned.plan)) on.kept.files
