pub mod Withins
pub mod Examples
