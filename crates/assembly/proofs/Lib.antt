pub mod Built
pub mod Kept
pub mod Fresh
pub mod Unfilled
pub mod Tail
