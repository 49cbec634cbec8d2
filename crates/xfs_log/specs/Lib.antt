pub mod Log
pub mod BlankLog
pub mod Sectors
pub use Rattle.xfs_heads.specs as xfs_heads
