-- The specs of `text_units`.
pub mod Units
