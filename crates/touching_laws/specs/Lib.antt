-- The specs of `touching_laws`.
pub mod Lists
