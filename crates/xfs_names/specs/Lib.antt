pub mod Wanted
pub mod Pairs
pub mod Place
pub mod Rebuilt
pub mod Built
pub mod Having
pub mod Private
