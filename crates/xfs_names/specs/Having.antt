-- A volume that has the names that are wanted (chapters "Directories" and "On-disk Inode").
use Rattle.std.specs.Prelude.{◌≡◌, ℕ, true, List, map}
use Rattle.std.specs.List.{All}
use Rattle.xfs_dirdata.specs.declared.records.EntryRec.{EntryRec}
use Rattle.xfs_volume.specs.declared.directories.DirRec.{DirRec}
use Rattle.xfs_volume.specs.declared.files.FileRec.{FileRec}
use Rattle.xfs_volume.specs.Names.{type_of}
use Rattle.xfs_links.specs.declared.records.NodeRec.{NodeRec}
use Rattle.xfs_names.specs.Wanted.{wanted_nodes, wanted_parents, wanted_links}

-- a file by its number and kind
abbrev pub node_of : FileRec → NodeRec
node_of f = record { ino = f.ino; kind = type_of f }

-- the files in use are those that are wanted, each with its links; each directory is whole and states its parent
pub record HasWanted (nodes : List NodeRec) (listed : List EntryRec) (root new : ℕ) (files : List FileRec) (dirs : List DirRec) : Type 0 where
  pub files_are : map node_of files ≡ wanted_nodes nodes listed root new
  pub links_are : map (λ (f : FileRec). (f.ino, f.core.nlink)) files ≡ wanted_links nodes listed root new
  pub dirs_are : map (λ (d : DirRec). (d.ino, d.parent)) dirs ≡ wanted_parents nodes listed root new
  pub whole : All (λ (d : DirRec). d.whole ≡ true) dirs
