-- What is known of a volume in which names change, in parts.
use Rattle.std.specs.Prelude.{◌≡◌, ℕ, List}
use Rattle.xfs_disk.specs.declared.stamp.Stamp.{Stamp}
use Rattle.xfs_geom.specs.declared.geometry.Geometry.{Geometry}
use Rattle.xfs_place.specs.declared.wanted.Wanted.{Wanted}
use Rattle.xfs_volume.specs.declared.files.FileRec.{FileRec}
use Rattle.xfs_rebuild.specs.Rebuilds.{HasNamesDue}
use Rattle.xfs_rebuild.specs.declared.names_due.NamesDue.{NamesDue}
use Rattle.xfs_rename.specs.Renames.{IsSettling}
use Rattle.xfs_rename.specs.declared.settling.Settling.{Settling}

-- these are parts of what is known, and names are settled by it
pub record IsParted (g : Geometry) (s : Stamp) (n : NamesDue) (t : Settling) (wanted : Wanted) (files : List FileRec) (clusters fresh : List ℕ) : Type 0 where
  pub due : HasNamesDue g s n
  pub settling : IsSettling g n t
  pub wanted' : wanted ≡ n.wanted
  pub files' : files ≡ n.files
  pub clusters' : clusters ≡ n.clusters
  pub fresh' : fresh ≡ n.fresh
