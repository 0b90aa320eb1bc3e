-- The specs of `conducting`.
pub mod Conducting
