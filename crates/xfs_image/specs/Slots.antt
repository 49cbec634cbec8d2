-- The slots of inodes, and what they read as in an image (chapter "AG Inode Management").
use Rattle.std.specs.Prelude.{ℕ, List, [], Option, Some, None}
use Rattle.std.specs.List.{flat_map, range_with_len}
use Rattle.xfs_disk.specs.Blocks.{Image}
use Rattle.xfs_geom.specs.Conversions.{inode_of, slot_at}
use Rattle.xfs_geom.specs.Volumes.{Volume}
use Rattle.xfs_inode.specs.xfs_tree.Blocks.{each_of}
use Rattle.xfs_inode.specs.Named.{slot_reads}
use Rattle.xfs_inode.specs.declared.files.FileRead.{FileRead}
use Rattle.xfs_log.specs.Sectors.{sector_in}

-- the bytes of a slot, given its block and its number there; none where it lies outside the volume
abbrev pub bytes_in : Image → Option (ℕ × ℕ) → List ℕ
bytes_in image None = []
bytes_in image (Some place) = sector_in image place.0 place.1

-- the bytes of the slot of an inode
abbrev pub slot_bytes : Volume → Image → ℕ → List ℕ
slot_bytes v image ino = bytes_in image (slot_at v ino)

-- what the slot of an inode reads as, with all the blocks that it names
unfoldable pub reads_as : Volume → Image → ℕ → FileRead
reads_as v image ino = slot_reads v image ino (slot_bytes v image ino)

-- the eight inodes of a block, and the 32 of the four blocks of a cluster, which is given by its first block
abbrev pub inodes_of_block : Volume → ℕ → List ℕ
inodes_of_block v block = each_of 8 (inode_of v block)

abbrev pub cluster_blocks : ℕ → List ℕ
cluster_blocks cluster = range_with_len cluster 4

unfoldable pub cluster_inodes : Volume → ℕ → List ℕ
cluster_inodes v cluster = flat_map (inodes_of_block v) (cluster_blocks cluster)
