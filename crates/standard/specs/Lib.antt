pub mod Standard
pub mod Steps
