pub mod Laws
pub mod Nans
