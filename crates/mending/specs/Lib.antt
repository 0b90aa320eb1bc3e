-- The specs of `mending`.
pub mod Mending
