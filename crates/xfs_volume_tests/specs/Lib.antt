pub mod Rendered
