-- The specs of `turns`.
pub mod Turns
