pub mod Signs
pub mod PowerLaws
pub mod Examples
