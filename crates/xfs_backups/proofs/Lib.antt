mod Causes
pub mod Electing
pub mod Mending
pub mod Planning
pub mod Rows
