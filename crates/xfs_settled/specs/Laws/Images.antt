-- Laws about images in which a rebuild was written. Each function does nothing; its contract is the law.
use Rattle.std.specs.Prelude.{◌≡◌, ℕ, List, length}
use Rattle.xfs_disk.specs.Blocks.{Image, IsImage}
use Rattle.xfs_disk.specs.declared.stamp.Stamp.{Stamp}
use Rattle.xfs_geom.specs.declared.geometry.Geometry.{Geometry}
use Rattle.xfs_mend.specs.xfs_rebuild.Rebuilds.{IsRebuildOf}
use Rattle.xfs_mend.specs.xfs_rebuild.declared.names_due.NamesDue.{NamesDue}
use Rattle.xfs_mend.specs.xfs_rebuild.declared.planning.Rebuilt.{Rebuilt}
use Rattle.xfs_mend.specs.xfs_rename.declared.planning.Renamed.{Renamed}
use Rattle.xfs_mend.specs.xfs_restored.Relinking.{IsRelinked}
use Rattle.xfs_mend.specs.xfs_restored.Rewriting.{IsRewritten}
use Rattle.xfs_scan.specs.Evidence.{IsEvidence}
use Rattle.xfs_scan.specs.declared.evidence.Evidence.{Evidence}
use Rattle.xfs_settled.specs.Rewrites.{IsRewriteOf}

-- Where no name changes, two images in which a rebuild of one image was written are the same, block by block, whatever evidence
-- each rebuild goes by.
abbrev pub RebuiltImagesAreOne : Type 0
RebuiltImagesAreOne = (g : Geometry) (sector : List ℕ) (s : Stamp) (image now other : Image) (e f : Evidence) (r q : Rebuilt)
    → IsEvidence g image e → IsRebuildOf g sector s image e r → IsRewritten g r image now → IsImage (length image) now
    → IsEvidence g image f → IsRebuildOf g sector s image f q → IsRewritten g q image other → IsImage (length image) other
    → now ≡ other

-- And so are two in which a rebuild was written that changes names.
abbrev pub RelinkedImagesAreOne : Type 0
RelinkedImagesAreOne = (g : Geometry) (sector : List ℕ) (s : Stamp) (image now other : Image) (e f : Evidence) (n m : NamesDue) (r q : Renamed)
    → IsRelinked g sector s image now e n r → IsImage (length image) now → IsRelinked g sector s image other f m q → IsImage (length image) other
    → now ≡ other

-- So all images in which some rebuild of one image was written are the same, whatever evidence it goes by and whether names change or
-- not, which the image decides: each block that is planned has the same bytes, and all others are as they were.
abbrev pub RewritesAreOne : Type 0
RewritesAreOne = (g : Geometry) (sector : List ℕ) (s : Stamp) (image now other : Image) → IsImage (length image) now → IsImage (length image) other
    → IsRewriteOf g sector s image now → IsRewriteOf g sector s image other → now ≡ other
