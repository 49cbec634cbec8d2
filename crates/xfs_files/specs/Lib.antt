pub mod Ahead
pub mod FileDisk
pub mod Streams
pub mod System
pub mod FileLibrary
