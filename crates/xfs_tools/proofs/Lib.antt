mod Checking
pub mod Choosing
pub mod Labels
pub mod Looking
pub mod Making
pub mod Offending
pub mod Refusing
pub mod Roots
pub mod Rooting
pub mod Zeros
