pub mod Causes
pub mod Judged
pub mod Facts
pub mod Settled
pub mod Named
