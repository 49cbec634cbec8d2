-- A law about the blocks that directories give up. The function does nothing; its contract is the law.
use Rattle.std.specs.Prelude.{List}
use Rattle.std.specs.List.{All}
use Rattle.xfs_disk.specs.Blocks.{Image}
use Rattle.xfs_disk.specs.declared.stamp.Stamp.{Stamp}
use Rattle.xfs_geom.specs.declared.geometry.Geometry.{Geometry}
use Rattle.xfs_scan.specs.declared.evidence.Evidence.{Evidence}
use Rattle.xfs_volume.specs.declared.files.FileRec.{FileRec}
use Rattle.xfs_mend.specs.xfs_rebuild.Rebuilds.{Ground}
use Rattle.xfs_mend.specs.xfs_rebuild.declared.names_due.NamesDue.{NamesDue}
use Rattle.xfs_settled.specs.Gathered.{IsGathered, LiesInside}

-- The extents of the files that are gathered of any image lie in the volume, so that a directory that is built anew gives up blocks of
-- it.
abbrev pub GatheredExtentsLieInside : Type 0
GatheredExtentsLieInside = (g : Geometry) (s : Stamp) (image : Image) (e : Evidence) (on : Ground) (n : NamesDue) → IsGathered g s image e on n
    → All (λ (f : FileRec). All (LiesInside g) f.extents) n.files
