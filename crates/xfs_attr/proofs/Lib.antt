pub mod Steps
pub mod Taken
pub mod Walked
pub mod Spelled
pub mod Disjoint
