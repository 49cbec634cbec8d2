-- An image in which a rebuild was written says what was due, and it is consistent.
use Rattle.std.proofs.Common.{◌≡◌, ℕ, List, Ok, refl}
use Rattle.xfs_disk.specs.Blocks.{Image}
use Rattle.xfs_disk.specs.declared.stamp.Stamp.{Stamp}
use Rattle.xfs_geom.specs.Volumes.{Volume, volume_of}
use Rattle.xfs_geom.specs.declared.geometry.Geometry.{Geometry}
use Rattle.xfs_volume.specs.declared.files.FileRec.{FileRec}
use Rattle.xfs_volume.specs.declared.groups.GroupRec.{GroupRec}
use Rattle.xfs_laws.specs.Lawful.{broken_law}
use Rattle.xfs_image.specs.Consistent.{IsConsistent}
use Rattle.xfs_image.specs.Files.{inodes_of}
use Rattle.xfs_image.specs.Lsns.{lsns_read}
use Rattle.xfs_image.specs.View.{log_of, view}
use Rattle.xfs_place.specs.declared.placed.Placed.{Placed}
use Rattle.xfs_rename.specs.xfs_scan.Evidence.{IsEvidence}
use Rattle.xfs_rename.specs.xfs_scan.declared.evidence.Evidence.{Evidence}
use Rattle.xfs_rename.proofs.xfs_made.Catalogs.{reads_as}
use Rattle.xfs_rename.specs.xfs_made.Volumes.{Checksums}
use Rattle.xfs_rename.specs.xfs_request.Requests.{volume_wanted}
use Rattle.xfs_rename.specs.xfs_rebuild.Rebuilds.{Ground, IsRebuildOf}
use Rattle.xfs_rename.specs.xfs_rebuild.declared.planning.Rebuilt.{Rebuilt}
use Rattle.xfs_restored.specs.Rewriting.{IsRewritten}
use Rattle.xfs_restored.proofs.Logs.{backups_rebuilt, counts_rebuilt, groups_rebuilt, super_rebuilt}
use Rattle.xfs_restored.specs.DueFiles.{kept_inodes, rebuilt_dirs}
use Rattle.xfs_restored.specs.Kept.{HasKept}
use Rattle.xfs_restored.proofs.DueDirectories.{due_dirs_are, due_entries}
use Rattle.xfs_restored.proofs.DueList.{files_are}
use Rattle.xfs_restored.proofs.KeptChunks.{inodes_are_kept}
use Rattle.xfs_restored.proofs.Handed.{dirs_of_image, entries_of_image, has_kept, kept_of_image}
use Rattle.xfs_restored.proofs.Lawful.{lawful}
use Rattle.xfs_restored.specs.Names.{HasKeptNames}
use Rattle.xfs_restored.specs.Restoring.{checksums_in, files_due, groups_due, restored_catalog}

module _ (g : Geometry) (sector : List ℕ) (s : Stamp) (image now : Image) (e : Evidence) (r : Rebuilt) (told : IsEvidence g image e)
    (is : IsRebuildOf g sector s image e r) (new : IsRewritten g r image now) where
  abbrev v : Volume
  v = volume_of g

  abbrev on : Ground
  on = is.on

  abbrev p : Placed
  p = is.planned.planned.placed

  abbrev crcs : Checksums
  crcs = checksums_in g now

  abbrev groups : List GroupRec
  groups = groups_due g on p crcs

  abbrev files : List FileRec
  files = files_due g s on crcs

  has : HasKept g s image now on.kept on.seen
  has = has_kept g sector s image now e r told is new

  inodes : inodes_of v groups ≡ kept_inodes v on.kept
  unfolding volume_wanted
  inodes = inodes_are_kept g image on.kept on.reserved p.groups crcs.agf crcs.agi (kept_of_image g image e on told is.ground)

  pub says : view g now ≡ Ok (restored_catalog g s now on p)
  says =
      reads_as g now groups files on.kept.entries (rebuilt_dirs g.rootino on.kept) p.counts (log_of v now) (lsns_read v now groups files)
      (groups_rebuilt g sector s image now on r is.planned new) (files_are g s image now on.kept on.seen has groups inodes)
      (due_entries g s image now on.kept on.seen has crcs.slot (entries_of_image g image e on told is.ground))
      (due_dirs_are g s image now on.kept on.seen has crcs.slot (dirs_of_image g image e on told is.ground))
      (counts_rebuilt g sector s image now on r is.planned new) refl refl

  -- so it has the entries and the directories that are kept
  pub names_kept : HasKeptNames g on now
  names_kept = record { catalog = restored_catalog g s now on p; reads = says; entries' = refl; dirs' = refl }

  pub consistent : IsConsistent broken_law g now
  consistent =
      let primary = super_rebuilt g sector s image now on r is.planned new in
      record {
        elected = primary.0;
        first = primary.1;
        catalog = restored_catalog g s now on p;
        reads = says;
        lawful = lawful g sector s image now e r told is new;
        backups = backups_rebuilt g sector s image now on r is.planned new;
      }
