-- The specs of `determined`.
pub mod Determined
pub mod Joins
