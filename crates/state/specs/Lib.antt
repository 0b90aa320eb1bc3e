pub mod Network
pub mod State
