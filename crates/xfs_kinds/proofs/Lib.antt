pub mod Ranges
pub mod Blocks
pub mod Sweep
pub mod Joined
pub mod Swept
pub mod ByLength
