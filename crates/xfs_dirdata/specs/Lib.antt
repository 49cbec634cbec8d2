pub mod Sizes
pub mod Faults
pub mod Short
pub mod Best
pub mod Data
pub mod Written
pub mod Bytes
