pub mod Answers
pub mod Sets
pub mod Named
pub mod Private
