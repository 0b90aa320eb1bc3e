-- The specs of `coefficient`.
pub mod Link
