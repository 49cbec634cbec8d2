-- Laws about the clusters among which lost+found finds a place, and about its number. The function does nothing; its contract is the
use Rattle.std.specs.Prelude.{◌≡◌, ◌+◌, ◌<◌, ◌≤◌, ◌^◌, false}
use Rattle.std.specs.List.{All}
use Rattle.xfs_disk.specs.Blocks.{Image}
use Rattle.xfs_disk.specs.declared.stamp.Stamp.{Stamp}
use Rattle.xfs_geom.specs.declared.geometry.Geometry.{Geometry}
use Rattle.xfs_links.specs.Entries.{is_kept_node}
use Rattle.xfs_scan.specs.declared.evidence.Evidence.{Evidence}
use Rattle.xfs_mend.specs.xfs_rebuild.Rebuilds.{Ground}
use Rattle.xfs_mend.specs.xfs_rebuild.declared.names_due.NamesDue.{NamesDue}
use Rattle.xfs_mend.specs.xfs_rename.Lost.{cluster_found, lost_due}
use Rattle.xfs_changes.specs.Nodes.{nodes_of_files}
use Rattle.xfs_settled.specs.Gathered.{IsGathered}

-- The clusters that are gathered of any image lie in the volume (`clusters`), and so does the one that is found for lost+found where
-- one is (`found`). Its inode has a number below 2^32 (`low`), which no file has (`apart`).
abbrev pub LostFoundStandsApartClusters : Type 0
LostFoundStandsApartClusters = (g : Geometry) (s : Stamp) (image : Image) (e : Evidence) (on : Ground) (n : NamesDue) → IsGathered g s image e on n
    → All (λ cluster. cluster + 4 ≤ g.dblocks) n.clusters

-- of the same, `found`
abbrev pub LostFoundStandsApartFound : Type 0
LostFoundStandsApartFound = (g : Geometry) (n : NamesDue) → All (λ cluster. cluster + 4 ≤ g.dblocks) (cluster_found g n)

-- of the same, `low`
abbrev pub LostFoundStandsApartLow : Type 0
LostFoundStandsApartLow = (g : Geometry) (s : Stamp) (image : Image) (e : Evidence) (on : Ground) (n : NamesDue) → IsGathered g s image e on n → (lost_due g n).new < 2 ^ 32

-- of the same, `apart`
abbrev pub LostFoundStandsApartApart : Type 0
LostFoundStandsApartApart = (g : Geometry) (s : Stamp) (image : Image) (e : Evidence) (on : Ground) (n : NamesDue) → IsGathered g s image e on n
    → is_kept_node (nodes_of_files n.files) (lost_due g n).new ≡ false
