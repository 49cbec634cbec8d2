pub mod Writing
pub use Rattle.xfs_inode.specs as xfs_inode
