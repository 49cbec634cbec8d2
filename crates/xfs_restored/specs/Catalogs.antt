-- What a volume in which names were changed is due to say as a whole.
use Rattle.std.specs.Prelude.{List}
use Rattle.xfs_disk.specs.Blocks.{Image}
use Rattle.xfs_disk.specs.declared.stamp.Stamp.{Stamp}
use Rattle.xfs_geom.specs.Volumes.{volume_of}
use Rattle.xfs_geom.specs.declared.geometry.Geometry.{Geometry}
use Rattle.xfs_volume.specs.declared.catalogs.Catalog.{Catalog}
use Rattle.xfs_volume.specs.declared.groups.GroupRec.{GroupRec}
use Rattle.xfs_image.specs.Lsns.{lsns_read}
use Rattle.xfs_image.specs.View.{log_of}
use Rattle.xfs_rename.specs.xfs_made.Groups.{due_groups}
use Rattle.xfs_names.specs.declared.building.BuiltDirectory.{BuiltDirectory}
use Rattle.xfs_names.specs.declared.records.WantedNames.{WantedNames}
use Rattle.xfs_place.specs.declared.placed.Placed.{Placed}
use Rattle.xfs_rename.specs.xfs_made.Standing.{agf_crc_at, agi_crc_at}
use Rattle.xfs_rename.specs.xfs_request.Chunks.{inodes_wanted}
use Rattle.xfs_rename.specs.xfs_rebuild.Rebuilds.{Ground}
use Rattle.xfs_rename.specs.xfs_rebuild.declared.names_due.NamesDue.{NamesDue}
use Rattle.xfs_rename.specs.Lost.{lost_due}
use Rattle.xfs_rename.specs.Settled.{settled}
use Rattle.xfs_restored.specs.Relinking.{renamed_dirs, renamed_entries, renamed_files}

-- the groups, with the chunks of the clusters that there then are and what is placed in each, sealed with the checksums that stand there
abbrev pub renamed_groups : Geometry → Image → NamesDue → WantedNames → Placed → List GroupRec
renamed_groups g now n w p =
    due_groups (volume_of g) (inodes_wanted (volume_of g) (settled n (lost_due g n) w)) p.groups (agf_crc_at (volume_of g) now) (agi_crc_at (volume_of g) now)

-- the volume: these groups, the files, the entries and the directories with the names that are wanted, the counts that were placed, and
-- the log and the numbers of the image
abbrev pub renamed_catalog : Geometry → Stamp → Image → Ground → NamesDue → WantedNames → List BuiltDirectory → Placed → Catalog
renamed_catalog g s now on n w built p = record {
  geometry = g;
  groups = renamed_groups g now n w p;
  files = renamed_files g s now on n w built p;
  entries = renamed_entries n w;
  dirs = renamed_dirs w;
  counts = p.counts;
  log = log_of (volume_of g) now;
  lsns = lsns_read (volume_of g) now (renamed_groups g now n w p) (renamed_files g s now on n w built p);
}
