mod Chained
pub mod Zeros
pub mod Ready
pub mod ReadBack
pub mod Reread
