-- A law about the files of a volume in which names were changed. The function does nothing; its contract is the law.
use Rattle.std.specs.Prelude.{◌≡◌, ℕ, List, Ok}
use Rattle.std.specs.List.{flat_map}
use Rattle.xfs_disk.specs.Blocks.{Image}
use Rattle.xfs_disk.specs.declared.stamp.Stamp.{Stamp}
use Rattle.xfs_geom.specs.Volumes.{volume_of}
use Rattle.xfs_geom.specs.declared.geometry.Geometry.{Geometry}
use Rattle.xfs_image.specs.Files.{files_read, inodes_of}
use Rattle.xfs_image.specs.Slots.{cluster_inodes}
use Rattle.xfs_volume.specs.declared.groups.GroupRec.{GroupRec}
use Rattle.xfs_rename.specs.xfs_scan.declared.evidence.Evidence.{Evidence}
use Rattle.xfs_rename.specs.xfs_rebuild.declared.names_due.NamesDue.{NamesDue}
use Rattle.xfs_rename.specs.Lost.{lost_due}
use Rattle.xfs_rename.specs.Settled.{settled}
use Rattle.xfs_rename.specs.declared.planning.Renamed.{Renamed}
use Rattle.xfs_restored.specs.Relinking.{IsRelinked, renamed_files}

-- Where the inodes of the chunks are those of the clusters that the volume then has, the files that read are the due ones: one for each
-- file that there is to be, by number.
abbrev pub RenamedFilesRead : Type 0
RenamedFilesRead = (g : Geometry) (sector : List ℕ) (s : Stamp) (image now : Image) (e : Evidence) (n : NamesDue) (r : Renamed)
    (has : IsRelinked g sector s image now e n r) (groups : List GroupRec)
    → inodes_of (volume_of g) groups ≡ flat_map (cluster_inodes (volume_of g)) (settled n (lost_due g n) has.is.w).clusters
    → files_read (volume_of g) now groups ≡ Ok (renamed_files g s now has.on n has.is.w has.is.built has.is.placed)
