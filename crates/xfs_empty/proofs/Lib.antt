pub mod Chunk
pub mod Kept
pub mod Slots
pub mod Places
pub mod Ready
pub mod Planned
pub mod Room
pub mod Results
pub mod Pushed
pub mod Wants
mod Bounds
mod Chained
pub mod Shapes
pub mod Stated
pub mod Numbers
pub mod Accepted
pub mod Carried
