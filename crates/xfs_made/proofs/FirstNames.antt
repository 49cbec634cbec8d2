-- The names of an empty volume keep their laws.
use Rattle.std.proofs.Common.{ℕ, [], refl}
use Rattle.xfs_disk.specs.declared.stamp.Stamp.{Stamp}
use Rattle.xfs_geom.specs.Volumes.{Volume}
use Rattle.xfs_naming.specs.Naming.{directory_laws, link_laws, naming_laws, place_laws}
use Rattle.xfs_volume.specs.Laws.{AreKept}
use Rattle.xfs_made.specs.Files.{first_dirs, first_files}

-- one law of the root's directory, and two of the place and the links of each file
pub names_kept : (v : Volume) (s : Stamp) (crc : ℕ → ℕ) → AreKept (naming_laws 128 (first_files v s crc) [] first_dirs)
unfolding naming_laws directory_laws place_laws link_laws
names_kept v s crc = (refl, (refl, (refl, (refl, (refl, (refl, (refl, tt)))))))
