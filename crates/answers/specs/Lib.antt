-- The specs of `answers`.
pub mod Answers
