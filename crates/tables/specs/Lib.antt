pub mod Tables
pub mod Tables871
pub mod Entries
pub mod Powers
