pub mod Nodes
pub mod Forks
pub mod Rooms
pub mod Replaced
pub mod Slots
pub use Rattle.xfs_empty.specs as xfs_empty
pub use Rattle.xfs_built.specs as xfs_built
