-- The specs of `tanks`.
pub mod Tanks
