pub mod Asked
pub mod Due
pub mod Rebuilding
pub mod Outcome
pub mod Private
pub use Rattle.xfs_rename.specs.xfs_made as xfs_made
pub use Rattle.xfs_rename.specs.xfs_rebuild as xfs_rebuild
pub use Rattle.xfs_rename.specs as xfs_rename
pub use Rattle.xfs_restored.specs as xfs_restored
