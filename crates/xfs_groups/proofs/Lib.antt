pub mod Causes
pub mod BlockSets
pub mod Along
pub mod Naming
pub mod Rows
pub mod Sweeps
pub mod Placed
pub mod Choosing
pub mod Bare
pub mod OneChosen
pub mod Five
pub mod Lawful
pub mod Wholes
pub mod Lengths
pub mod Grouped
pub mod Taken
pub mod Fronts
mod Lacking
