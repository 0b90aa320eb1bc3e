-- The specs of `held_heads`.
pub mod Held
