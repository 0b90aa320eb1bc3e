-- The specs of `text_records`.
pub mod Figures
pub mod Nodes
pub mod Links
