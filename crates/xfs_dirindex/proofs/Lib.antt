pub mod Compared
pub mod Gathered
pub mod Longest
pub mod Split
pub mod Levels
pub mod Found
pub mod Members
mod Taken
mod LeafTests
