pub mod Leaks
