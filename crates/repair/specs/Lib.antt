-- The specs of `repair`.
pub mod Repair
