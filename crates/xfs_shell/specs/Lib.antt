pub mod LineParts
pub mod Running
pub mod Steps
pub mod Sessions
pub mod Ends
pub mod Shells
pub mod Stops
pub mod Private
