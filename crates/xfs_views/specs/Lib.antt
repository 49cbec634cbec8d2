pub mod DirectoriesInWords
pub mod FilesInWords
pub mod Guarded
pub mod Claimed
pub mod Standing
pub mod Examples
pub mod KeptInWords
pub mod Same
pub mod SameFiles
pub mod NamedBlocks
pub mod Backups
pub use Rattle.xfs_image.specs as xfs_image
pub use Rattle.xfs_laws.specs.xfs_space as xfs_space
pub use Rattle.xfs_laws.specs as xfs_laws
