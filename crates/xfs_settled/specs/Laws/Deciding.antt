-- Laws about the files and entries by which names are decided. The function does nothing; its contract is the laws.
use Rattle.std.specs.Prelude.{◌≡◌, true}
use Rattle.xfs_disk.specs.Blocks.{Image}
use Rattle.xfs_disk.specs.declared.stamp.Stamp.{Stamp}
use Rattle.xfs_geom.specs.declared.geometry.Geometry.{Geometry}
use Rattle.xfs_links.specs.Entries.{AreEntries, AreFiles, is_directory_number}
use Rattle.xfs_scan.specs.declared.evidence.Evidence.{Evidence}
use Rattle.xfs_mend.specs.xfs_rebuild.Rebuilds.{Ground}
use Rattle.xfs_mend.specs.xfs_rebuild.declared.names_due.NamesDue.{NamesDue}
use Rattle.xfs_changes.specs.Nodes.{nodes_of_files}
use Rattle.xfs_settled.specs.Gathered.{IsGathered}

-- Of what is gathered of any image names can be decided: its files ascend by numbers below 2^32 and are fewer (`files`), its entries
-- stand by directory, each of a directory among the files (`entries`), and its root is a directory (`root`).
abbrev pub GatheredNamesCanBeDecidedFiles : Type 0
GatheredNamesCanBeDecidedFiles = (g : Geometry) (s : Stamp) (image : Image) (e : Evidence) (on : Ground) (n : NamesDue) → IsGathered g s image e on n → AreFiles (nodes_of_files n.files)

-- of the same, `entries`
abbrev pub GatheredNamesCanBeDecidedEntries : Type 0
GatheredNamesCanBeDecidedEntries = (g : Geometry) (s : Stamp) (image : Image) (e : Evidence) (on : Ground) (n : NamesDue) → IsGathered g s image e on n
    → AreEntries (nodes_of_files n.files) n.entries

-- of the same, `root`
abbrev pub GatheredNamesCanBeDecidedRoot : Type 0
GatheredNamesCanBeDecidedRoot = (g : Geometry) (s : Stamp) (image : Image) (e : Evidence) (on : Ground) (n : NamesDue) → IsGathered g s image e on n
    → is_directory_number (nodes_of_files n.files) g.rootino ≡ true
