pub mod Numbers
pub mod Options
pub mod Words
pub mod DebugWords
pub mod Sizes
pub mod Identifiers
pub mod SubOptions
pub mod MakeWords
