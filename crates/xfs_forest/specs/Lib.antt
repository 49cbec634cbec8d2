pub mod Causes
pub mod Forest
