pub mod Asks
pub mod Extents
pub mod Bases
pub mod Pieces
pub mod Directories
