pub mod Accepts
pub mod Examples
