pub mod Digits
pub mod Layouts
pub mod Parts
pub mod Register
pub mod Rounds
pub mod Rows
pub mod Stays
pub mod Written
