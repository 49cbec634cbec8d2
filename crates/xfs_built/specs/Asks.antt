-- The runs that a directory asks for, and directories as objects to be placed (chapter "Directories").
use Rattle.std.specs.Prelude.{ℕ, Bool, ◌/◌, ◌==◌, not, if◌then◌else◌, List, [], ◌∷◌, ◌++◌, map}
use Rattle.std.specs.List.{filter, flat_map}
use Rattle.xfs_disk.specs.Blocks.{Image}
use Rattle.xfs_dirbuild.specs.declared.image.DirImage.{DirImage}
use Rattle.xfs_names.specs.Built.{fork_room}
use Rattle.xfs_names.specs.declared.building.BuiltDirectory.{BuiltDirectory}
use Rattle.xfs_names.specs.declared.building.ForkRoom.{ForkRoom}
use Rattle.xfs_place.specs.declared.wanted.Object.{Object}
use Rattle.xfs_place.specs.declared.wanted.ObjectKind.TheVariants.{Directory}
use Rattle.xfs_place.specs.declared.wanted.RunAsk.{RunAsk}

-- a run of so many blocks from a file block on, where there are some
abbrev pub asked_run : ℕ → ℕ → ℕ → List RunAsk
asked_run ino offset blocks = if blocks == 0 then [] else (record { blocks = blocks; owner = ino; offset_word = offset } ∷ [])

-- the data of a directory from file block 0 on, its index from 32 GiB on, its free blocks from 64 GiB on
abbrev pub asks_for : ℕ → DirImage → List RunAsk
asks_for ino image = asked_run ino 0 image.data_blocks ++ asked_run ino 0x800000 image.index_blocks ++ asked_run ino 0x1000000 image.free_blocks

-- whether a directory has blocks, and does not stand in its slot
abbrev pub stands_in_blocks : BuiltDirectory → Bool
stands_in_blocks b = not (b.image.data_blocks == 0)

-- as an object, of as many runs as there is room for extents of 16 bytes
abbrev pub object_of : List ForkRoom → BuiltDirectory → Object
object_of rooms b = record { ino = b.ino; kind = Directory; runs = asks_for b.ino b.image; most = fork_room rooms b.ino / 16 }

abbrev pub objects_of : List ForkRoom → List BuiltDirectory → List Object
objects_of rooms built = map (object_of rooms) (filter stands_in_blocks built)

-- their blocks, one directory after the other
abbrev pub blocks_of_built : List BuiltDirectory → Image
blocks_of_built built = flat_map (λ (b : BuiltDirectory). b.image.blocks) built
