pub mod Texts
pub mod Spelled
