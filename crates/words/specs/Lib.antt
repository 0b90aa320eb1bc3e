pub mod Buffer
pub mod Digits
pub mod Words
