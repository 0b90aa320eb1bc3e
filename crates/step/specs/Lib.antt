-- The specs of `step`.
pub mod Step
