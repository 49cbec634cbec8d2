-- The entries of the directories of a new volume, in the order of its files (chapter "Directories").
use Rattle.std.specs.Prelude.{ℕ, ◌/◌, ◌^◌, ◌==◌, List, length, map}
use Rattle.std.specs.List.{filter}
use Rattle.xfs_dirdata.specs.declared.records.EntryRec.{EntryRec}
use Rattle.xfs_geom.specs.Volumes.{Volume}
use Rattle.xfs_volume.specs.Names.{entry_type}
use Rattle.xfs_proto.specs.declared.protofile.ProtoNode.{ProtoNode}
use Rattle.xfs_filled.specs.FileTrees.{child_places, node_at}
use Rattle.xfs_filled.specs.Numbers.{number_of}

-- the entry that names the file at a place
abbrev pub entry_of_place : Volume → List ℕ → List ProtoNode → ℕ → EntryRec
entry_of_place v starts ns i = record {
  dir = number_of v starts (node_at ns i).parent;
  name = (node_at ns i).name;
  ino = number_of v starts i;
  ftype = entry_type ((node_at ns i).mode / 2 ^ 12);
}

-- the entries of the directory at a place
abbrev pub entries_at : Volume → List ℕ → List ProtoNode → ℕ → List EntryRec
entries_at v starts ns k = map (entry_of_place v starts ns) (child_places ns k)

-- the number of its parent
abbrev pub parent_of_place : Volume → List ℕ → List ProtoNode → ℕ → ℕ
parent_of_place v starts ns k = number_of v starts (node_at ns k).parent

-- how many of entries name directories
abbrev pub directories_in : List EntryRec → ℕ
directories_in entries = length (filter (λ (e : EntryRec). e.ftype == 2) entries)
