-- What the contracts of private functions alone cite.
pub mod Joined
pub mod Named
pub mod Targets
