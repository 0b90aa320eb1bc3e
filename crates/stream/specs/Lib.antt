-- The specs of `stream`.
pub mod Stream
