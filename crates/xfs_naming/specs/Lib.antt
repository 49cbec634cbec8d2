pub mod Naming
pub mod Ordered
pub mod Lawful
pub mod Private
