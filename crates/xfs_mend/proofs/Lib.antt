pub mod Accepted
pub mod Anew
pub mod Answering
pub mod Deciding
pub mod Repaired
pub mod Turning
pub mod Ending
pub mod Owing
pub mod Restored
pub mod Again
pub mod OneGround
pub mod OneNames
pub mod Renaming
pub mod OneRebuild
pub mod Rebuilt
pub mod SameCandidates
pub mod Staying
pub mod Written
pub use Rattle.xfs_rename.proofs.xfs_made as xfs_made
pub use Rattle.xfs_rename.proofs.xfs_rebuild as xfs_rebuild
pub use Rattle.xfs_rename.proofs as xfs_rename
pub use Rattle.xfs_restored.proofs as xfs_restored
