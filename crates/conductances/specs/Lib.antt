pub mod Conductances
