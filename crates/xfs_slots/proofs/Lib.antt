pub mod Gathering
pub mod Kept
pub mod Outside
pub mod Rests
pub mod Turns
pub mod Known
pub mod Causes
pub mod Chunks
