pub mod Laws
pub mod Columns
pub mod Meaning
pub mod Examples
