-- Names that are decided for the files of a volume.
use Rattle.std.specs.Prelude.{◌≡◌, true, List}
use Rattle.xfs_geom.specs.declared.geometry.Geometry.{Geometry}
use Rattle.xfs_links.specs.Entries.{AreEntries, AreFiles, is_directory_number}
use Rattle.xfs_links.specs.declared.records.DecidedNames.{DecidedNames}
use Rattle.xfs_links.specs.declared.records.NodeRec.{NodeRec}
use Rattle.xfs_names.specs.Wanted.{AreDecided}
use Rattle.xfs_rebuild.specs.declared.names_due.NamesDue.{NamesDue}
use Rattle.xfs_changes.specs.Nodes.{nodes_of_files}

-- these are the files, each by its number and kind; the names are those that are decided for them
pub record AreDecidedFor (g : Geometry) (n : NamesDue) (nodes : List NodeRec) (names : DecidedNames) : Type 0 where
  pub nodes' : nodes ≡ nodes_of_files n.files
  pub files' : AreFiles nodes
  pub listed : AreEntries nodes n.entries
  pub root' : is_directory_number nodes g.rootino ≡ true
  pub decided : AreDecided nodes n.entries g.rootino names
