-- What the contracts of private functions alone cite.
pub mod Claims
pub mod Steps
pub mod Parts
