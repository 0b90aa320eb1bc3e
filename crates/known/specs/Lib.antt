pub mod Known
pub mod Knowledge
pub mod Progress
