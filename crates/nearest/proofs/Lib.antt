pub mod Units
pub mod Values
