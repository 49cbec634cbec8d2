pub mod Runs
pub mod NamedBlocks
pub mod Pushed
pub mod Sound
mod Causes
mod ForkRoots
mod Placed
mod Single
mod Tested
