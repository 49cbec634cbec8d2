pub mod Blocks
pub mod Lists
pub mod Links
pub mod Bank
pub mod Parts
pub mod Lending
pub mod Scattered
pub mod Pieces
