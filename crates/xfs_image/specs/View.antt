-- What a whole volume says, where all its parts read.
use Rattle.std.specs.Prelude.{◌≡◌, ℕ, List, map, Result, Ok, Err}
use Rattle.xfs_word.specs.Field.{field_of}
use Rattle.xfs_disk.specs.Blocks.{Image, bytes_of_block}
use Rattle.xfs_geom.specs.Volumes.{Volume, volume_of}
use Rattle.xfs_geom.specs.declared.geometry.Geometry.{Geometry}
use Rattle.xfs_geom.specs.declared.records.Counts.{Counts}
use Rattle.xfs_log.specs.Log.{seen_of, state_of}
use Rattle.xfs_log.specs.xfs_heads.declared.log_state.LogState.{LogState}
use Rattle.xfs_volume.specs.declared.catalogs.Catalog.{Catalog}
use Rattle.xfs_volume.specs.declared.files.FileRec.{FileRec}
use Rattle.xfs_volume.specs.declared.groups.GroupRec.{GroupRec}
use Rattle.xfs_image.specs.declared.findings.Finding.{Finding}
use Rattle.xfs_image.specs.Directories.{dirs_read, entries_read}
use Rattle.xfs_image.specs.Files.{files_read}
use Rattle.xfs_image.specs.Groups.{groups_read}
use Rattle.xfs_image.specs.Lsns.{lsns_read}
use Rattle.xfs_log.specs.Sectors.{log_sectors}

-- the counters of the primary superblock
abbrev pub counts_of : Image → Counts
counts_of image = record {
  icount = field_of (bytes_of_block image 0) 128 8;
  ifree = field_of (bytes_of_block image 0) 136 8;
  fdblocks = field_of (bytes_of_block image 0) 144 8;
}

-- whether the log is clean
unfoldable pub log_of : Volume → Image → LogState
log_of v image = state_of (map seen_of (log_sectors v image))

-- what a volume with these groups and files says
abbrev pub catalog_of : Geometry → Image → List GroupRec → List FileRec → Catalog
catalog_of g image groups files = record {
  geometry = g;
  groups = groups;
  files = files;
  entries = entries_read (volume_of g) image files;
  dirs = dirs_read (volume_of g) image files;
  counts = counts_of image;
  log = log_of (volume_of g) image;
  lsns = lsns_read (volume_of g) image groups files;
}

-- what comes of what reads, or the finding
abbrev pub if_read : {A B : Type 0} → Result A Finding → (A → Result B Finding) → Result B Finding
if_read (Err found) next = Err found
if_read (Ok a) next = next a

-- what a volume says, or the first part that does not read: those of the groups in order, then the slots
unfoldable pub view : Geometry → Image → Result Catalog Finding
view g image =
    if_read (groups_read (volume_of g) image) (λ groups.
    if_read (files_read (volume_of g) image groups) (λ files.
    Ok (catalog_of g image groups files)))

-- what reads is the catalog of groups that all read, and of files that all read
pub record IsRead (g : Geometry) (image : Image) (c : Catalog) : Type 0 where
  pub groups : List GroupRec
  pub files : List FileRec
  pub groups_read : groups_read (volume_of g) image ≡ Ok groups
  pub files_read : files_read (volume_of g) image groups ≡ Ok files
  pub catalog : c ≡ catalog_of g image groups files
