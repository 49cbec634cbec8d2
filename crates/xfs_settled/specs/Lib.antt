pub mod Gathered
pub mod Served
pub mod Laws
pub mod Sectors
pub mod Rewrites
pub mod Outcomes
