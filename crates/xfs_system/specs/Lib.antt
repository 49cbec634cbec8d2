pub mod Opening
pub mod Stamps
