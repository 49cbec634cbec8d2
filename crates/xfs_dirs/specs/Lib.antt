pub mod Gathered
pub mod Answers
