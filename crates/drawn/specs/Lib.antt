-- The specs of `drawn`.
pub mod Drawn
