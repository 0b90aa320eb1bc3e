-- The specs of `entries`.
pub mod Entries
