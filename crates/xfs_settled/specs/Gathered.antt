-- What is gathered of an image in which a name has to change.
use Rattle.std.specs.Prelude.{◌≡◌, ◌+◌, ◌<◌, ◌≤◌, true}
use Rattle.xfs_word.specs.declared.extents.Extent.{Extent}
use Rattle.xfs_disk.specs.Blocks.{Image}
use Rattle.xfs_disk.specs.declared.stamp.Stamp.{Stamp}
use Rattle.xfs_geom.specs.Groups.{block_of_address}
use Rattle.xfs_geom.specs.Volumes.{volume_of}
use Rattle.xfs_geom.specs.declared.geometry.Geometry.{Geometry}
use Rattle.xfs_scan.specs.Evidence.{IsEvidence}
use Rattle.xfs_scan.specs.declared.evidence.Evidence.{Evidence}
use Rattle.xfs_mend.specs.xfs_rebuild.Rebuilds.{AreNamesDue, Ground, IsGround, names_change}
use Rattle.xfs_mend.specs.xfs_rebuild.declared.names_due.NamesDue.{NamesDue}

-- of the evidence of an image a rebuild has this to go by, a name has to change, and the names are those that are due
pub record IsGathered (g : Geometry) (s : Stamp) (image : Image) (e : Evidence) (on : Ground) (n : NamesDue) : Type 0 where
  pub evidence : IsEvidence g image e
  pub ground : IsGround (volume_of g) e on
  pub change : names_change g s on ≡ true
  pub due : AreNamesDue g s on n

-- an extent has some blocks, all of the volume
pub record LiesInside (g : Geometry) (x : Extent) : Type 0 where
  pub start : block_of_address g.agblocks g.agblklog x.start < g.dblocks
  pub end : block_of_address g.agblocks g.agblklog x.start + x.count ≤ g.dblocks
