-- The specs of `held_start`.
pub mod Start
