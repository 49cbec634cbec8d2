pub mod Geometry
pub mod Inodes
pub mod Placing
pub mod Bytes
pub mod Planning
pub mod Sizes
pub mod Supers
