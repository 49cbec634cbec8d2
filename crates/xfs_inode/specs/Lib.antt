pub mod Cores
pub mod Slots
pub mod Forks
pub mod Files
pub mod Named
pub mod Sound
pub mod Private
pub use Rattle.xfs_tree.specs as xfs_tree
pub use Rattle.xfs_kinds.specs as xfs_kinds
