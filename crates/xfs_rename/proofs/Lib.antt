mod Agreed
mod SettledBytes
mod AskedRuns
mod FirstRooms
mod ForkNumbers
mod HeldRuns
mod InTurn
mod NewClusters
mod NumberPlaced
pub mod RenamedSlots
mod Renderable
mod SettledAsked
mod SettledNames
mod SparedGroups
mod Standing
mod StayingRuns
mod Further
pub use Rattle.xfs_rebuild.proofs.xfs_made as xfs_made
pub use Rattle.xfs_rebuild.proofs as xfs_rebuild
pub use Rattle.xfs_changes.proofs.xfs_built as xfs_built
