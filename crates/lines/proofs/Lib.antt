pub mod Stretches
pub mod Lines
pub mod Examples
