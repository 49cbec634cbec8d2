-- What the contracts of private functions alone cite.
pub mod Ending
pub mod Rebuilds
pub mod Refusing
