pub mod Extents
pub mod Laws
pub mod Names
pub mod Rest
pub use Rattle.xfs_geom.specs as xfs_geom
pub use Rattle.xfs_heads.specs as xfs_heads
