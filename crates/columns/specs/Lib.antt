-- The specs of `columns`.
pub mod Columns
