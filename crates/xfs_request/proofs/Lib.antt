mod Rows
mod Rising
mod Counted
mod Found
mod Numbers
pub use Rattle.xfs_empty.proofs as xfs_empty
pub use Rattle.xfs_salvage.proofs as xfs_salvage
