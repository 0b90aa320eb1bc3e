-- The specs of `link_rows`.
pub mod LinkRows
