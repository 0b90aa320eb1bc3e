-- The specs of `stepwise`.
pub mod Stepwise
