pub mod Capping
pub mod Listing
pub mod Fields
pub mod Showing
