pub mod Reading
pub mod OneOrder
pub mod Shares
pub mod Runs
