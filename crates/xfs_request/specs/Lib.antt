pub mod Fresh
pub mod Slots
pub mod Chunks
pub mod Cycles
pub mod Requests
pub use Rattle.xfs_empty.specs as xfs_empty
pub use Rattle.xfs_salvage.specs as xfs_salvage
