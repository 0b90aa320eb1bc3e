-- The specs of `desk_evening`.
pub mod Told
