pub mod Making
pub mod Stepping
pub mod Names
pub mod Trees
pub mod Standing
