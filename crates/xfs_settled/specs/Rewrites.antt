-- An image in which a rebuild of another one was written.
use Rattle.std.specs.Prelude.{ℕ, ◌⊎◌, List}
use Rattle.xfs_disk.specs.Blocks.{Image}
use Rattle.xfs_disk.specs.declared.stamp.Stamp.{Stamp}
use Rattle.xfs_geom.specs.declared.geometry.Geometry.{Geometry}
use Rattle.xfs_mend.specs.xfs_rebuild.Rebuilds.{IsRebuildOf}
use Rattle.xfs_mend.specs.xfs_rebuild.declared.names_due.NamesDue.{NamesDue}
use Rattle.xfs_mend.specs.xfs_rebuild.declared.planning.Rebuilt.{Rebuilt}
use Rattle.xfs_mend.specs.xfs_rename.declared.planning.Renamed.{Renamed}
use Rattle.xfs_mend.specs.xfs_restored.Relinking.{IsRelinked}
use Rattle.xfs_mend.specs.xfs_restored.Rewriting.{IsRewritten}
use Rattle.xfs_scan.specs.Evidence.{IsEvidence}
use Rattle.xfs_scan.specs.declared.evidence.Evidence.{Evidence}

-- by some evidence of the image, a rebuild in which no name changes
pub record IsPlainRewrite (g : Geometry) (sector : List ℕ) (s : Stamp) (image now : Image) : Type 0 where
  pub evidence : Evidence
  pub seen : IsEvidence g image evidence
  pub rebuilt : Rebuilt
  pub is : IsRebuildOf g sector s image evidence rebuilt
  pub new : IsRewritten g rebuilt image now

-- or one in which names change
pub record IsNamedRewrite (g : Geometry) (sector : List ℕ) (s : Stamp) (image now : Image) : Type 0 where
  pub evidence : Evidence
  pub due : NamesDue
  pub renamed : Renamed
  pub is : IsRelinked g sector s image now evidence due renamed

abbrev pub IsRewriteOf : Geometry → List ℕ → Stamp → Image → Image → Type 0
IsRewriteOf g sector s image now = IsPlainRewrite g sector s image now ⊎ IsNamedRewrite g sector s image now
