-- The specs of `model`.
pub mod Rules
