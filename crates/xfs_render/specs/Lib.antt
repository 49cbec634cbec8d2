pub mod Counters
pub mod Groups
pub mod HeaderBlocks
pub mod Drafts
pub mod Trees
pub mod Slots
pub mod Clusters
pub mod Objects
pub mod Logs
pub mod Plans
pub mod NewBlocks
pub mod Rendering
pub mod Readiness
pub use Rattle.xfs_inodebuild.specs as xfs_inodebuild
