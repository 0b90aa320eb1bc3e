pub mod Barrier
