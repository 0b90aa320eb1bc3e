-- The specs of `sale`.
pub mod Sale
