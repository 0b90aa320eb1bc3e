-- The specs of `status`.
pub mod Rules
