-- The specs of `desk_text`.
pub mod Told
