-- How many bytes the data forks of directories that are built anew may have.
use Rattle.std.specs.Prelude.{ℕ, Bool, ◌*◌, ◌==◌, ◌&&◌, not, List, map}
use Rattle.std.specs.List.{filter}
use Rattle.xfs_disk.specs.Lists.{is_among}
use Rattle.xfs_volume.specs.declared.files.FileRec.{FileRec}
use Rattle.xfs_names.specs.declared.building.ForkRoom.{ForkRoom}

-- how many bytes the data fork of a directory that is built anew may have, where its attribute fork stands behind it
abbrev pub room_before_attributes : FileRec → ForkRoom
room_before_attributes f = record { ino = f.ino; bytes = 8 * f.core.forkoff }

abbrev pub has_attributes_behind : List ℕ → FileRec → Bool
has_attributes_behind rebuilt f = is_among rebuilt f.ino && not (f.core.forkoff == 0)

abbrev pub fork_rooms : List ℕ → List FileRec → List ForkRoom
fork_rooms rebuilt files = map room_before_attributes (filter (has_attributes_behind rebuilt) files)
