-- Laws about a volume in which names were changed. Each function does nothing; its contract is the law.
use Rattle.std.specs.Prelude.{◌≡◌, ℕ, List}
use Rattle.xfs_disk.specs.Blocks.{Image}
use Rattle.xfs_disk.specs.declared.stamp.Stamp.{Stamp}
use Rattle.xfs_geom.specs.Volumes.{volume_of}
use Rattle.xfs_geom.specs.declared.geometry.Geometry.{Geometry}
use Rattle.xfs_image.specs.Consistent.{IsConsistent, IsElected}
use Rattle.xfs_image.specs.Keeping.{Keeps, Protected}
use Rattle.xfs_laws.specs.Lawful.{broken_law}
use Rattle.xfs_rename.specs.xfs_scan.declared.evidence.Evidence.{Evidence}
use Rattle.xfs_rename.specs.xfs_rebuild.declared.names_due.NamesDue.{NamesDue}
use Rattle.xfs_rename.specs.declared.planning.Renamed.{Renamed}
use Rattle.xfs_restored.specs.Names.{HasWantedNames}
use Rattle.xfs_restored.specs.Relinking.{IsRelinked}

-- The image in which names were changed is consistent (`consistent`), each file that was protected is kept (`keeps`), and it has the
-- names that are wanted (`names`).
abbrev pub RelinkedVolumesAreConsistentConsistent : Type 0
RelinkedVolumesAreConsistentConsistent = (g : Geometry) (sector : List ℕ) (s : Stamp) (image now : Image) (e : Evidence) (n : NamesDue) (r : Renamed)
    → IsElected (volume_of g) image → IsRelinked g sector s image now e n r → IsConsistent broken_law g now

-- of the same, `keeps`
abbrev pub RelinkedVolumesAreConsistentKeeps : Type 0
RelinkedVolumesAreConsistentKeeps = (g : Geometry) (sector : List ℕ) (s : Stamp) (image now : Image) (e : Evidence) (n : NamesDue) (r : Renamed)
    → IsElected (volume_of g) image → IsRelinked g sector s image now e n r → (ino : ℕ) → Protected (volume_of g) image ino → Keeps (volume_of g) image now ino

-- of the same, `names`
abbrev pub RelinkedVolumesAreConsistentNames : Type 0
RelinkedVolumesAreConsistentNames = (g : Geometry) (sector : List ℕ) (s : Stamp) (image now : Image) (e : Evidence) (n : NamesDue) (r : Renamed) (has : IsRelinked g sector s image now e n r)
    → HasWantedNames g n has.is.w now
