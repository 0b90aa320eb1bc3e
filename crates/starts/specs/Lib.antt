-- The specs of `starts`.
pub mod Start
