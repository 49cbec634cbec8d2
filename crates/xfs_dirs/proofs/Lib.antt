pub mod Extents
pub mod OnlyLeaf
pub mod Order
pub mod Readings
pub mod Taken
pub mod Causes
