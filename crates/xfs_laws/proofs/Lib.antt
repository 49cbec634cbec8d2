mod Addresses
mod Directories
mod Due
mod Filtered
pub mod Bits
pub mod Differences
pub mod Trees
mod Tests
pub mod Firsts
pub mod Groups
pub mod Repeated
pub mod Conditions
pub mod Grouped
pub mod Roots
mod Verdicts
pub use Rattle.xfs_space.proofs as xfs_space
pub use Rattle.xfs_naming.proofs as xfs_naming
