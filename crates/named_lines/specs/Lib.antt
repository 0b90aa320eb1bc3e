pub mod Named
pub mod Table
