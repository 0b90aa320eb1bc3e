-- The specs of `desk`.
pub mod Desk
