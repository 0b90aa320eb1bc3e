pub mod Loops
pub mod Moves
pub mod Mended
