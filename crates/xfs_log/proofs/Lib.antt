pub mod LastHeader
pub mod Alone
pub mod CleanLog
pub mod Bytes
pub mod BlankSectors
pub mod BlankIsClean
pub mod Zeros
