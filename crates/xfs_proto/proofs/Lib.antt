pub mod Decimals
pub mod Names
pub mod Ranges
pub mod Accepting
pub mod Taking
pub mod Exact
pub mod Offending
pub mod Bytes
