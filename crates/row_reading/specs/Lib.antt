-- The specs of `row_reading`.
pub mod RowReading
