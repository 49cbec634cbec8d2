-- What a rebuilt volume is due to say.
use Rattle.std.specs.Prelude.{List}
use Rattle.xfs_disk.specs.Blocks.{Image}
use Rattle.xfs_disk.specs.declared.stamp.Stamp.{Stamp}
use Rattle.xfs_geom.specs.Volumes.{volume_of}
use Rattle.xfs_geom.specs.declared.geometry.Geometry.{Geometry}
use Rattle.xfs_log.specs.xfs_heads.declared.log_state.LogState.{LogState}
use Rattle.xfs_volume.specs.declared.catalogs.BlockLsn.{BlockLsn}
use Rattle.xfs_volume.specs.declared.catalogs.Catalog.{Catalog}
use Rattle.xfs_volume.specs.declared.files.FileRec.{FileRec}
use Rattle.xfs_volume.specs.declared.groups.GroupRec.{GroupRec}
use Rattle.xfs_image.specs.Lsns.{lsns_read}
use Rattle.xfs_image.specs.View.{log_of}
use Rattle.xfs_place.specs.declared.placed.Placed.{Placed}
use Rattle.xfs_rename.specs.xfs_made.Groups.{due_groups}
use Rattle.xfs_rename.specs.xfs_made.Standing.{agf_crc_at, agi_crc_at}
use Rattle.xfs_rename.specs.xfs_made.Volumes.{Checksums}
use Rattle.xfs_rename.specs.xfs_request.Chunks.{inodes_wanted}
use Rattle.xfs_rename.specs.xfs_rebuild.Rebuilds.{Ground}
use Rattle.xfs_restored.specs.DueFiles.{rebuilt_dirs, rebuilt_files, stated_crc}

-- the groups, with the chunks of the kept clusters and what is placed in each; the kept files and those that are made anew
abbrev pub groups_due : Geometry → Ground → Placed → Checksums → List GroupRec
groups_due g on p crcs = due_groups (volume_of g) (inodes_wanted (volume_of g) on.kept) p.groups crcs.agf crcs.agi

abbrev pub files_due : Geometry → Stamp → Ground → Checksums → List FileRec
files_due g s on crcs = rebuilt_files (volume_of g) s on.kept on.seen crcs.slot

-- the volume, with a log and the log sequence numbers that stand in it
abbrev pub due_catalog : Geometry → Stamp → Ground → Placed → Checksums → LogState → List BlockLsn → Catalog
due_catalog g s on p crcs log lsns = record {
  geometry = g;
  groups = groups_due g on p crcs;
  files = files_due g s on crcs;
  entries = on.kept.entries;
  dirs = rebuilt_dirs g.rootino on.kept;
  counts = p.counts;
  log = log;
  lsns = lsns;
}

-- the checksums that an image has, and the volume with these and with the log and the numbers of the image
abbrev pub checksums_in : Geometry → Image → Checksums
checksums_in g image = record { agf = agf_crc_at (volume_of g) image; agi = agi_crc_at (volume_of g) image; slot = stated_crc (volume_of g) image }

abbrev pub restored_catalog : Geometry → Stamp → Image → Ground → Placed → Catalog
restored_catalog g s now on p =
    let crcs = checksums_in g now in
    due_catalog g s on p crcs (log_of (volume_of g) now) (lsns_read (volume_of g) now (groups_due g on p crcs) (files_due g s on crcs))
