pub mod Claimable
pub mod Kept
pub use Rattle.xfs_views.specs.xfs_image as xfs_image
pub use Rattle.xfs_views.specs.xfs_laws as xfs_laws
