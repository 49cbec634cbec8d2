pub mod Meeting
pub mod Last
pub mod Placed
pub mod Paths
pub mod LinkSteps
pub mod Views
pub mod Blocks
pub mod Cuts
mod Scattered
mod Runs
pub mod Lists
