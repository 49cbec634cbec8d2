pub mod Rendered
pub mod Asked
pub mod Rising
