pub mod Made
pub mod Kept
