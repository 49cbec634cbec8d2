pub mod Populated
pub mod FilledSlots
pub mod Names
pub mod Bytes
pub mod Volumes
pub use Rattle.xfs_made.specs as xfs_made
