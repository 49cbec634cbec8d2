pub mod Size
pub mod Packing
pub mod Exact
pub mod Private
