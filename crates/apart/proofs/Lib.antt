pub mod Parts
pub mod Solves
pub mod Rows
