-- What the contracts of private functions alone cite.
pub mod Arrived
pub mod Held
pub mod Places
pub mod Ranked
