pub mod Spans
pub mod Ranks
pub mod Keeping
pub mod Private
