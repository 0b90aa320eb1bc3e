pub mod Laws
pub mod Turns
pub mod Same
pub mod Walk
