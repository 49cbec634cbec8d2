pub mod Causes
pub mod Gathered
pub mod Facts
