-- What the contracts of private functions alone cite.
pub mod Walking
pub mod Places
pub mod Kinds
