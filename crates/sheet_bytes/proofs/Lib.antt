pub mod Laws
pub mod Lengths
pub mod Back
pub mod Examples
