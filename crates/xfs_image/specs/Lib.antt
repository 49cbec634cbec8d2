pub mod Slots
pub mod Groups
pub mod GroupParts
pub mod Clusters
pub mod Candidates
pub mod Files
pub mod Directories
pub mod Lsns
pub mod View
pub mod Consistent
pub mod Claims
pub mod Keeping
pub mod Examples
pub mod Reserved
pub use Rattle.xfs_inode.specs as xfs_inode
