pub mod Owners
pub mod SpaceLaws
pub mod Parts
pub mod Sorted
pub mod Maps
pub mod Private
