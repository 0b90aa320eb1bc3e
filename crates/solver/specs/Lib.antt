-- The specs of `solver`.
pub mod Solve
