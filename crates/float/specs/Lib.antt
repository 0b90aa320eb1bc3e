pub mod Sign
pub mod Order
pub mod WholePower
