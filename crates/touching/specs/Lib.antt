-- The specs of `touching`.
pub mod Touching
