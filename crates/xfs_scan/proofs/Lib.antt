mod Answered
mod Begun
mod Counting
mod Refusing
mod Rounds
mod Views
mod Numbers
pub mod Counts
