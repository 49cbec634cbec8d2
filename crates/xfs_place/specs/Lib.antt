pub mod Pool
pub mod Chunks
pub mod Choice
pub mod Claims
pub mod Placing
pub mod Wanted
pub mod Objects
pub mod Greatest
pub mod Finding
pub mod Sparing
pub mod Counts
pub mod Standing
pub mod Windows
pub mod Kept
pub use Rattle.xfs_kinds.specs as xfs_kinds
