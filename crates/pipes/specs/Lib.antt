-- The specs of `pipes`.
pub mod Pipe
