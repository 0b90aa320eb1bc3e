-- The specs of `causes`.
pub mod Causes
