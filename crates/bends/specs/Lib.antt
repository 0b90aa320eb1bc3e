-- The specs of `bends`.
pub mod Bends
