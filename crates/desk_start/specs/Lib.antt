-- The specs of `desk_start`.
pub mod Begun
