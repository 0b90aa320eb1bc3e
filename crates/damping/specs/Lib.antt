-- The specs of `damping`.
pub mod Damping
pub mod Units
