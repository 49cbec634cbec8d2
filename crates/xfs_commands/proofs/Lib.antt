mod Effects
pub mod Groups
pub mod InBlocks
pub mod Resealing
pub mod Stacking
pub mod KeptSessions
