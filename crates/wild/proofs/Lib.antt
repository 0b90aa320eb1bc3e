pub mod Wilds
