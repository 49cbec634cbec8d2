-- The files that read are the due ones, one for each file that there is to be.
use Rattle.std.proofs.Common.{◌≡◌, ℕ, List, Ok, sym, ap, ◌∙◌, subst}
use Rattle.std.specs.List.{flat_map}
use Rattle.xfs_disk.specs.Blocks.{Image}
use Rattle.xfs_disk.specs.declared.stamp.Stamp.{Stamp}
use Rattle.xfs_geom.specs.Volumes.{Volume, volume_of}
use Rattle.xfs_geom.specs.declared.geometry.Geometry.{Geometry}
use Rattle.xfs_image.specs.Candidates.{candidates}
use Rattle.xfs_image.specs.Claims.{candidate_files}
use Rattle.xfs_image.specs.Files.{files_at, files_read, inodes_of}
use Rattle.xfs_image.specs.Slots.{cluster_inodes}
use Rattle.xfs_rename.proofs.xfs_made.Candidates.{image_can}
use Rattle.xfs_rename.proofs.xfs_made.Inodes.{first_in}
use Rattle.xfs_rename.proofs.xfs_made.Spaced.{AreSpaced, kept_spaced}
use Rattle.xfs_rename.specs.xfs_scan.declared.evidence.Evidence.{Evidence}
use Rattle.xfs_volume.specs.declared.groups.GroupRec.{GroupRec}
use Rattle.xfs_rename.specs.xfs_rebuild.declared.names_due.NamesDue.{NamesDue}
use Rattle.xfs_rename.specs.Lost.{lost_due}
use Rattle.xfs_rename.specs.Settled.{settled}
use Rattle.xfs_rename.specs.declared.planning.Renamed.{Renamed}
use Rattle.xfs_restored.specs.Relinking.{IsRelinked, file_due, renamed_files}
use Rattle.xfs_restored.proofs.ClustersApart.{inodes_rise}
use Rattle.xfs_restored.proofs.FileLists.{files_listed, links_rise}
use Rattle.xfs_restored.proofs.KnownNames.{AreKnown}
use Rattle.xfs_restored.proofs.SlotReads.{none_reads, of_image, pair_among, pair_reads}

module _ (g : Geometry) (sector : List ℕ) (s : Stamp) (image now : Image) (e : Evidence) (n : NamesDue) (r : Renamed) (has : IsRelinked g sector s image now e n r)
    (known : AreKnown g sector s image now e n r has) where
  old_spaced : AreSpaced 0 n.clusters
  old_spaced =
      let v : Volume = volume_of g in
      subst (AreSpaced 0) (sym (has.due.clusters' ∙ (of_image g sector s image now e n r has known).clusters')) (kept_spaced v (candidates v image) (candidate_files v image) (image_can g image))

  pub files_are : (groups : List GroupRec) → inodes_of (volume_of g) groups ≡ flat_map (cluster_inodes (volume_of g)) (settled n (lost_due g n) has.is.w).clusters
      → files_read (volume_of g) now groups ≡ Ok (renamed_files g s now has.on n has.is.w has.is.built has.is.placed)
  unfolding files_read renamed_files
  files_are groups inodes =
      ap (files_at (volume_of g) now) inodes
      ∙ files_listed (volume_of g) now (file_due g s now has.on n has.is.w has.is.built has.is.placed) (first_in g 0)
      (flat_map (cluster_inodes (volume_of g)) (settled n (lost_due g n) has.is.w).clusters) (inodes_rise g sector s image n r has.is old_spaced) 0 has.is.w.links
      (links_rise (lost_due g n) 0 has.is.w.links known.rise) (pair_among g sector s image now e n r has known) (pair_reads g sector s image now e n r has known)
      (none_reads g sector s image now e n r has known)
