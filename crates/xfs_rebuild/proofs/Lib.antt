mod Listed
mod Filtered
mod Causes
mod Judged
mod Old
mod Counted
mod Linked
mod Placed
pub mod Served
pub mod Grounds
mod KeptNames
mod Images
mod Parts
mod Needs
mod Rebuilding
mod Asked
pub mod Known
mod Added
mod DueNames
pub use Rattle.xfs_made.proofs as xfs_made
