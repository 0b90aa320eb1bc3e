pub mod Nans
pub mod ByteLaws
pub mod Examples
