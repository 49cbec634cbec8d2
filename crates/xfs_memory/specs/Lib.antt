pub mod Schedule
pub mod MemoryDisk
pub mod MemorySource
pub mod MemorySink
