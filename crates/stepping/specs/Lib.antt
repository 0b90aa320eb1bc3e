-- The specs of `stepping`.
pub mod Taking
