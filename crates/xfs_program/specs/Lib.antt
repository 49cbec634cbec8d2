pub mod Purposes
pub mod Calling
pub mod Performing
