mod Listing
mod Ordering
mod Reading
mod Outside
mod LogSeen
mod Slots
pub mod Inodes
mod Sums
mod ByGroup
