-- Where an image states the root of the tree of inode records of its first group.
use Rattle.std.specs.Prelude.{ℕ, ◌≤◌, ◌<◌}
use Rattle.xfs_word.specs.Field.{field_of}
use Rattle.xfs_disk.specs.Blocks.{Image, bytes_of_block}

-- four bytes in the header of its inodes, the third sector of block 0
abbrev pub inode_root : Image → ℕ
inode_root image = field_of (bytes_of_block image 0) 1044 4

-- it is one of the first blocks, and not block 0
pub record HasInodeRoot (blocks : ℕ) (image : Image) : Type 0 where
  pub behind : 1 ≤ inode_root image
  pub inside : inode_root image < blocks
