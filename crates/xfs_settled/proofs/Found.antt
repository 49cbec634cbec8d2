-- What is gathered of an image is kept of its clusters and files.
use Rattle.xfs_disk.specs.Blocks.{Image}
use Rattle.xfs_disk.specs.declared.stamp.Stamp.{Stamp}
use Rattle.xfs_geom.specs.Volumes.{volume_of}
use Rattle.xfs_geom.specs.declared.geometry.Geometry.{Geometry}
use Rattle.xfs_image.specs.Candidates.{candidates}
use Rattle.xfs_image.specs.Claims.{candidate_files}
use Rattle.xfs_mend.specs.xfs_made.Handed.{IsKeptOf}
use Rattle.xfs_scan.specs.declared.evidence.Evidence.{Evidence}
use Rattle.xfs_mend.specs.xfs_rebuild.Rebuilds.{Ground, HasNamesDue, IsFound}
use Rattle.xfs_mend.specs.xfs_rebuild.declared.names_due.NamesDue.{NamesDue}
use Rattle.xfs_mend.proofs.xfs_restored.Handed.{kept_of_image}
use Rattle.xfs_mend.proofs.xfs_restored.Relinked.{ground_found}
use Rattle.xfs_settled.specs.Gathered.{IsGathered}

module _ (g : Geometry) (s : Stamp) (image : Image) (e : Evidence) (on : Ground) (n : NamesDue) (has : IsGathered g s image e on n) where
  pub of_image : IsKeptOf (volume_of g) (candidates (volume_of g) image) (candidate_files (volume_of g) image) on.kept
  of_image = kept_of_image g image e on has.evidence has.ground

  pub found : IsFound (volume_of g) on.kept
  found = ground_found g image e on has.evidence has.ground

  pub names_due : HasNamesDue g s n
  names_due = record { on = on; named = has.change; due = has.due; found = found }
