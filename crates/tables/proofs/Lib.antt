pub mod Table
pub mod Rounded
pub mod Test
pub mod Middles
pub mod Lent
pub mod Entries
pub mod NanFree
pub mod Exponents
