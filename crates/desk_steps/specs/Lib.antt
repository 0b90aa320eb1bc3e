-- The specs of `desk_steps`.
pub mod Steps
