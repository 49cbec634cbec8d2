pub mod Heads
pub mod FreeSpace
pub mod Inodes
pub mod FreeList
pub use Rattle.xfs_geom.specs as xfs_geom
