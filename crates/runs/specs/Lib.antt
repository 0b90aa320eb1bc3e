-- The specs of `runs`.
pub mod Run
