pub mod Backups
pub mod Causes
pub mod Private
