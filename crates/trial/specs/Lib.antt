-- The specs of `trial`.
pub mod Trial
