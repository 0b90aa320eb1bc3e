pub mod Scan
pub mod Read
