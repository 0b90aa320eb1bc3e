-- The specs of `assembly`.
pub mod Assembly
pub mod Unfilled
