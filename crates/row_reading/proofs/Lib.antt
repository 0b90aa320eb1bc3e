pub mod Bytes
pub mod Same
pub mod Layouts
pub mod Nodes
pub mod Theorem
