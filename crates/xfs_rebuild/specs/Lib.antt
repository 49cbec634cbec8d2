pub mod Seen
pub mod Found
pub mod Names
pub mod NamesJudged
pub mod Places
pub mod Changes
pub mod Differing
pub mod Bytes
pub mod Rebuilds
pub mod Refusals
pub mod Private
pub use Rattle.xfs_scan.specs.xfs_slots as xfs_slots
pub use Rattle.xfs_scan.specs as xfs_scan
pub use Rattle.xfs_request.specs as xfs_request
pub use Rattle.xfs_made.specs as xfs_made
