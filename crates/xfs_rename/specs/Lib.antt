pub mod Lost
pub mod Settled
pub mod Objects
pub mod Renames
pub mod Decided
pub mod Parted
pub use Rattle.xfs_rebuild.specs.xfs_slots as xfs_slots
pub use Rattle.xfs_rebuild.specs.xfs_scan as xfs_scan
pub use Rattle.xfs_changes.specs.xfs_empty as xfs_empty
pub use Rattle.xfs_salvage.specs as xfs_salvage
pub use Rattle.xfs_rebuild.specs.xfs_request as xfs_request
pub use Rattle.xfs_rebuild.specs.xfs_made as xfs_made
pub use Rattle.xfs_rebuild.specs as xfs_rebuild
pub use Rattle.xfs_changes.specs.xfs_built as xfs_built
pub use Rattle.xfs_changes.specs as xfs_changes
