-- The specs of `repairs_shown`.
pub mod Shown
