-- What the contracts of private functions alone cite.
pub mod Chosen
pub mod Forests
pub mod Heads
pub mod Left
pub mod Looking
pub mod Parts
pub mod ReadGroups
pub mod Roots
