pub mod Groups
pub mod Keeping
pub mod Standing
pub mod Files
pub mod Volumes
pub mod Unused
pub use Rattle.xfs_laws.specs as xfs_laws
pub use Rattle.xfs_render.specs as xfs_render
pub use Rattle.xfs_views.specs as xfs_views
pub mod Ranked
pub mod Handed
