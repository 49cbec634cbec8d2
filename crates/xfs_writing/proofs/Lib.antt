pub mod Steps
pub mod Counted
pub mod Mixing
pub mod RowSteps
