pub mod Tokens
pub mod Modes
pub mod Numbers
pub mod EntryNames
pub mod Reading
pub mod Scanning
pub mod Grammar
