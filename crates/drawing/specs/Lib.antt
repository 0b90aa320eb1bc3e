-- The specs of `drawing`.
pub mod Drawing
