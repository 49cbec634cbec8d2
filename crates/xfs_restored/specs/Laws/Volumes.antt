-- Laws about a volume that was rebuilt. Each function does nothing; its contract is the law.
use Rattle.std.specs.Prelude.{◌≡◌, ◌++◌, ℕ, List, Ok, None}
use Rattle.xfs_disk.specs.Blocks.{Image}
use Rattle.xfs_disk.specs.declared.stamp.Stamp.{Stamp}
use Rattle.xfs_geom.specs.Volumes.{volume_of}
use Rattle.xfs_geom.specs.declared.geometry.Geometry.{Geometry}
use Rattle.xfs_image.specs.Consistent.{IsConsistent, IsElected}
use Rattle.xfs_image.specs.View.{view}
use Rattle.xfs_laws.specs.Lawful.{broken_law}
use Rattle.xfs_rename.specs.xfs_scan.Evidence.{IsEvidence}
use Rattle.xfs_rename.specs.xfs_scan.declared.evidence.Evidence.{Evidence}
use Rattle.xfs_writing.specs.Writing.{writes_of_rows, written}
use Rattle.xfs_rename.specs.xfs_rebuild.Rebuilds.{IsRebuildOf}
use Rattle.xfs_rename.specs.xfs_rebuild.declared.planning.Rebuilt.{Rebuilt}
use Rattle.xfs_restored.specs.Rewriting.{IsRewritten}
use Rattle.xfs_restored.specs.Names.{HasKeptNames}
use Rattle.xfs_restored.specs.Restoring.{restored_catalog}

-- An image in which a rebuild was written says just what was due: the groups with what was placed in each, the kept files and those
-- that are made anew, the kept entries and directories, and its log.
abbrev pub RestoredVolumesSayWhatIsDue : Type 0
RestoredVolumesSayWhatIsDue = (g : Geometry) (sector : List ℕ) (s : Stamp) (image now : Image) (e : Evidence) (r : Rebuilt) → IsEvidence g image e
    → (is : IsRebuildOf g sector s image e r) → IsRewritten g r image now → view g now ≡ Ok (restored_catalog g s now is.on is.planned.planned.placed)

-- So it has the names that are kept.
abbrev pub RestoredVolumesHaveWhatTheyNamed : Type 0
RestoredVolumesHaveWhatTheyNamed = (g : Geometry) (sector : List ℕ) (s : Stamp) (image now : Image) (e : Evidence) (r : Rebuilt) → IsEvidence g image e
    → (is : IsRebuildOf g sector s image e r) → IsRewritten g r image now → HasKeptNames g is.on now

-- What was due breaks no law: space, counters, free lists, chunks, names and the log.
abbrev pub DueVolumesAreLawful : Type 0
DueVolumesAreLawful = (g : Geometry) (sector : List ℕ) (s : Stamp) (image now : Image) (e : Evidence) (r : Rebuilt) → IsEvidence g image e
    → (is : IsRebuildOf g sector s image e r) → IsRewritten g r image now → broken_law (restored_catalog g s now is.on is.planned.planned.placed) ≡ None

-- So the image is consistent.
abbrev pub RestoredVolumesAreConsistent : Type 0
RestoredVolumesAreConsistent = (g : Geometry) (sector : List ℕ) (s : Stamp) (image now : Image) (e : Evidence) (r : Rebuilt) → IsEvidence g image e → IsElected (volume_of g) image
    → IsRebuildOf g sector s image e r → now ≡ written (writes_of_rows r.bank (r.fresh ++ r.in_place)) image → IsConsistent broken_law g now
