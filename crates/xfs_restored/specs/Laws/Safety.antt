-- A law about protected files. The function does nothing; its contract is the law.
use Rattle.std.specs.Prelude.{◌≡◌, ◌++◌, ℕ, List}
use Rattle.xfs_disk.specs.Blocks.{Image}
use Rattle.xfs_disk.specs.declared.stamp.Stamp.{Stamp}
use Rattle.xfs_geom.specs.Volumes.{volume_of}
use Rattle.xfs_geom.specs.declared.geometry.Geometry.{Geometry}
use Rattle.xfs_image.specs.Consistent.{IsElected}
use Rattle.xfs_image.specs.Keeping.{Keeps, Protected}
use Rattle.xfs_rename.specs.xfs_scan.Evidence.{IsEvidence}
use Rattle.xfs_rename.specs.xfs_scan.declared.evidence.Evidence.{Evidence}
use Rattle.xfs_writing.specs.Writing.{writes_of_rows, written}
use Rattle.xfs_rename.specs.xfs_rebuild.Rebuilds.{IsRebuildOf}
use Rattle.xfs_rename.specs.xfs_rebuild.declared.planning.Rebuilt.{Rebuilt}

-- Once a rebuild is written, each file that was protected is kept: it has the same bytes, attributes, target and device, and the same
-- core but for its number of names, the chain of inodes that wait to be removed, and its checksum.
abbrev pub RestoredVolumesKeepProtectedFiles : Type 0
RestoredVolumesKeepProtectedFiles = (g : Geometry) (sector : List ℕ) (s : Stamp) (image now : Image) (e : Evidence) (r : Rebuilt) → IsEvidence g image e → IsElected (volume_of g) image
    → IsRebuildOf g sector s image e r → now ≡ written (writes_of_rows r.bank (r.fresh ++ r.in_place)) image
    → (ino : ℕ) → Protected (volume_of g) image ino → Keeps (volume_of g) image now ino
