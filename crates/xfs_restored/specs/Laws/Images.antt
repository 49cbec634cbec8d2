-- A law about images in which a rebuild was written. The function does nothing; its contract is the laws.
use Rattle.std.specs.Prelude.{◌≤◌, ℕ, List, length}
use Rattle.xfs_disk.specs.Blocks.{Image}
use Rattle.xfs_disk.specs.declared.stamp.Stamp.{Stamp}
use Rattle.xfs_geom.specs.Volumes.{volume_of}
use Rattle.xfs_geom.specs.declared.geometry.Geometry.{Geometry}
use Rattle.xfs_image.specs.Consistent.{IsElected}
use Rattle.xfs_rename.specs.xfs_scan.Evidence.{IsEvidence}
use Rattle.xfs_rename.specs.xfs_scan.declared.evidence.Evidence.{Evidence}
use Rattle.xfs_rename.specs.xfs_rebuild.Rebuilds.{IsRebuildOf}
use Rattle.xfs_rename.specs.xfs_rebuild.declared.planning.Rebuilt.{Rebuilt}
use Rattle.xfs_restored.specs.Rewriting.{IsRewritten}
use Rattle.xfs_restored.specs.Kept.{HasKept}

-- An image is as large as the volume that it elects (`size`). Where what is planned of it was written, it has what is kept of it:
-- what is wanted of the slots of kept clusters, and the blocks that kept files claim (`kept`).
abbrev pub RebuiltImagesHaveWhatIsKeptSize : Type 0
RebuiltImagesHaveWhatIsKeptSize = (g : Geometry) (image : Image) → IsElected (volume_of g) image → g.dblocks ≤ length image

-- of the same, `kept`
abbrev pub RebuiltImagesHaveWhatIsKeptKept : Type 0
RebuiltImagesHaveWhatIsKeptKept = (g : Geometry) (sector : List ℕ) (s : Stamp) (image now : Image) (e : Evidence) (r : Rebuilt) → IsEvidence g image e
    → (is : IsRebuildOf g sector s image e r) → IsRewritten g r image now → HasKept g s image now is.on.kept is.on.seen
