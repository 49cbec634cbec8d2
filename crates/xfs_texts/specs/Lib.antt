pub mod Explaining
pub mod Help
pub mod Lines
pub mod Private
