pub mod Pairs
pub mod Mapped
pub mod Data
pub mod Faults
pub mod Sorted
pub mod Block
pub mod Leaf
pub mod Lookup
pub mod IndexTree
pub mod FreeBlocks
pub mod Node
pub use Rattle.xfs_dirdata.specs as xfs_dirdata
