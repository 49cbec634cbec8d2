-- A volume in which names were changed is consistent, and keeps each file that was protected.
use Rattle.std.proofs.Common.{ℕ, List, refl}
use Rattle.xfs_disk.specs.Blocks.{Image}
use Rattle.xfs_disk.specs.declared.stamp.Stamp.{Stamp}
use Rattle.xfs_geom.specs.Volumes.{Volume, volume_of}
use Rattle.xfs_geom.specs.declared.geometry.Geometry.{Geometry}
use Rattle.xfs_image.specs.Candidates.{candidates}
use Rattle.xfs_image.specs.Claims.{candidate_files}
use Rattle.xfs_image.specs.Consistent.{IsConsistent}
use Rattle.xfs_image.specs.Keeping.{Keeps, Protected}
use Rattle.xfs_laws.specs.Lawful.{broken_law}
use Rattle.xfs_rename.specs.xfs_scan.Evidence.{IsEvidence}
use Rattle.xfs_rename.specs.xfs_scan.declared.evidence.Evidence.{Evidence}
use Rattle.xfs_rename.proofs.xfs_made.Candidates.{image_can}
use Rattle.xfs_place.specs.declared.placed.Placed.{Placed}
use Rattle.xfs_rename.specs.xfs_rebuild.Rebuilds.{Ground, IsFound, IsGround}
use Rattle.xfs_rename.specs.xfs_rebuild.declared.names_due.NamesDue.{NamesDue}
use Rattle.xfs_rename.specs.declared.planning.Renamed.{Renamed}
use Rattle.xfs_rename.specs.xfs_made.Standing.{agf_crc_at, agi_crc_at}
use Rattle.xfs_restored.proofs.Handed.{kept_of_image}
use Rattle.xfs_restored.specs.Catalogs.{renamed_catalog, renamed_groups}
use Rattle.xfs_restored.specs.Names.{HasWantedNames}
use Rattle.xfs_restored.specs.Relinking.{IsRelinked}
use Rattle.xfs_restored.proofs.DirectoriesDue.{dirs_are_read, entries_are_read}
use Rattle.xfs_restored.proofs.FilesDue.{files_are}
use Rattle.xfs_restored.proofs.Joined.{HasSupers, KeepsLaws, ReadsAsDue, consistent, says}
use Rattle.xfs_restored.proofs.KnownJoined.{all_known}
use Rattle.xfs_restored.proofs.LsnsBehind.{log_keeps}
use Rattle.xfs_restored.proofs.NamesLawful.{names_kept}
use Rattle.xfs_restored.proofs.NumberedOf.{numbered}
use Rattle.xfs_restored.proofs.ReadHeads.{backups_due, counts_due, groups_due, super_due}
use Rattle.xfs_restored.proofs.ProtectedFiles.{file_kept}
use Rattle.xfs_restored.proofs.SettledClusters.{inodes_settled}
use Rattle.xfs_restored.proofs.SettledSpace.{chunks, counters, lists, space}
use Rattle.xfs_restored.proofs.SlotReads.{pair_reads, plain_claims}
use Rattle.xfs_restored.proofs.StayingOf.{directories, staying}
use Rattle.xfs_restored.proofs.WantedBuilt.{kept_built_directory}
use Rattle.xfs_restored.proofs.WantedNumbers.{kept_linked}

-- what an image gives a rebuild to go by is kept of clusters and files that can claim their blocks
pub ground_found : (g : Geometry) (image : Image) (e : Evidence) (on : Ground) → IsEvidence g image e → IsGround (volume_of g) e on → IsFound (volume_of g) on.kept
ground_found g image e on told base = record {
  clusters = candidates (volume_of g) image;
  files = candidate_files (volume_of g) image;
  can = image_can g image;
  is = kept_of_image g image e on told base;
}

module _ (g : Geometry) (sector : List ℕ) (s : Stamp) (image now : Image) (e : Evidence) (n : NamesDue) (r : Renamed) (has : IsRelinked g sector s image now e n r) where
  abbrev v : Volume
  v = volume_of g

  abbrev p : Placed
  p = has.is.placed

  abbrev agf : ℕ → ℕ
  agf = agf_crc_at v now

  abbrev agi : ℕ → ℕ
  agi = agi_crc_at v now

  reads : ReadsAsDue g s now has.on n has.is.w has.is.built has.is.placed
  reads = record {
    groups' = groups_due g sector s image now e n r has;
    files' =
        files_are g sector s image now e n r has (all_known g sector s image now e n r has) (renamed_groups g now n has.is.w p)
        (inodes_settled g sector s image now e n r has p.groups agf agi);
    entries' = entries_are_read g sector s image now e n r has;
    dirs' = dirs_are_read g sector s image now e n r has;
    counts' = counts_due g sector s image now e n r has;
  }

  laws : KeepsLaws g s now has.on n has.is.w has.is.built has.is.placed
  laws =
      let numbers = numbered g sector s image now e n r has in
      record {
        space = space g sector s image now e n r has numbers agf agi;
        chunks = chunks g sector s image now e n r has numbers agf agi;
        counters = counters g sector s image now e n r has numbers agf agi;
        lists = lists g sector s image now e n r has numbers agf agi;
        naming = names_kept g sector s image now e n r has;
        log = log_keeps g sector s image now e n r has numbers (staying g sector s image now e n r has) (directories g sector s image now e n r has) agf agi;
      }

  supers : HasSupers g now
  supers =
      let primary = super_due g sector s image now e n r has in
      record { elected = primary.0; first = primary.1; backups = backups_due g sector s image now e n r has }

  pub consistent_renamed : IsConsistent broken_law g now
  consistent_renamed = consistent g s now has.on n has.is.w has.is.built has.is.placed reads laws supers

  -- it has the names that are wanted
  pub names_wanted : HasWantedNames g n has.is.w now
  names_wanted = record {
    catalog = renamed_catalog g s now has.on n has.is.w has.is.built has.is.placed;
    reads = says g s now has.on n has.is.w has.is.built has.is.placed reads;
    entries' = refl;
    dirs' = refl;
  }

  pub kept_renamed : (ino : ℕ) → Protected (volume_of g) image ino → Keeps (volume_of g) image now ino
  kept_renamed ino safe =
      file_kept g sector s image now e n r has ino safe (kept_linked g sector s image now e n r has) (kept_built_directory g sector s image now e n r has)
      (pair_reads g sector s image now e n r has (all_known g sector s image now e n r has)) (plain_claims g sector s image now e n r has (all_known g sector s image now e n r has))
