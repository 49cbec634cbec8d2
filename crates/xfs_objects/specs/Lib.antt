pub mod Numbers
pub mod Objects
pub mod Tables
pub mod Items
pub mod Values
pub mod Hexadecimal
pub mod Places
