pub mod Readings
pub mod ShortForm
pub mod Leaf
