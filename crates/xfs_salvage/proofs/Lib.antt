pub mod Apart
pub mod Conditions
pub mod Ascending
pub mod Directories
pub mod Joined
pub mod Rising
pub use Rattle.xfs_views.proofs.xfs_laws as xfs_laws
pub use Rattle.xfs_views.proofs as xfs_views
