pub mod Crc
pub mod Extent
pub mod Field
pub mod Hash
pub mod Seal
pub mod Private
