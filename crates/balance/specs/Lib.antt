-- The specs of `balance`.
pub mod Balance
