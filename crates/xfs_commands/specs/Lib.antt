pub mod Commands
pub mod Cursors
pub mod Verbs
