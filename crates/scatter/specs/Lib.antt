-- The specs of `scatter`.
pub mod Scatter
