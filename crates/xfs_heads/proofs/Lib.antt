pub mod Zeros
pub mod Ready
pub mod ReadBack
pub mod Kept
pub mod Listed
pub mod Chained
