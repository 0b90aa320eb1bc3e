pub mod Feeding
pub mod Marks
pub mod Long
pub mod Listed
