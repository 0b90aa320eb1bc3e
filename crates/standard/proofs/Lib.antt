pub mod Filling
pub mod Lines
