-- The specs of `pressures_low`.
pub mod Low
