-- The specs of `constants`.
pub mod Arithmetic
pub mod Constants
