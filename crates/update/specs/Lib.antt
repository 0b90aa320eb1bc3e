-- The specs of `update`.
pub mod Update
