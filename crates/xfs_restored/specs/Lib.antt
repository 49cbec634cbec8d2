pub mod Rewriting
pub mod InPlace
pub mod DueFiles
pub mod Kept
pub mod Logs
pub mod Restoring
pub mod RunForks
pub mod Renamed
pub mod Changes
pub mod Reading
pub mod Relinking
pub mod Catalogs
pub mod Names
pub mod Numbered
pub mod StayingNumbers
pub mod Laws
pub use Rattle.xfs_views.specs as xfs_views
