-- The specs of `apart`.
pub mod Apart
