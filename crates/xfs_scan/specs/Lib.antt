pub mod Answers
pub mod Begun
pub mod Refused
pub mod Evidence
pub use Rattle.xfs_slots.specs as xfs_slots
