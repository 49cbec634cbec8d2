-- The blocks that are looked at when a slot is read.
use Rattle.std.specs.Prelude.{ℕ, ◌+◌, List, [], ◌++◌, Option, Some, None}
use Rattle.std.specs.Option.{option_to_list}
use Rattle.xfs_disk.specs.Blocks.{Image}
use Rattle.xfs_geom.specs.Volumes.{Volume}
use Rattle.xfs_tree.specs.Reading.{met_above}
use Rattle.xfs_tree.specs.Seats.{seats_of}
use Rattle.xfs_kinds.specs.FileTrees.{bmbt_shape}
use Rattle.xfs_inode.specs.Forks.{Top}
use Rattle.xfs_inode.specs.Named.{named_attr, named_link, named_top}
use Rattle.xfs_image.specs.Slots.{slot_bytes}

-- those of a tree of extents: the level under its root, and all levels below
abbrev pub blocks_of_top : Volume → Image → ℕ → Option Top → List ℕ
blocks_of_top v image ino None = []
blocks_of_top v image ino (Some top) = met_above (bmbt_shape ino) v image (seats_of top.places top.lows []) (top.level + 1)

-- those of a slot: of the tree that it names, of a leaf of attributes, of the target of a symbolic link
abbrev pub blocks_named : Volume → Image → ℕ → List ℕ → List ℕ
blocks_named v image ino slot =
    blocks_of_top v image ino (named_top v ino slot) ++ (option_to_list (named_attr v ino slot) ++ option_to_list (named_link v ino slot))

-- those of the slot of an inode
unfoldable pub named_blocks : Volume → Image → ℕ → List ℕ
named_blocks v image ino = blocks_named v image ino (slot_bytes v image ino)
