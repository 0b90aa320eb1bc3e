-- The specs of `row_sheet`.
pub mod RowSheet
