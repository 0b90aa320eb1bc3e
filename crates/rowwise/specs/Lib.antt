-- The specs of `rowwise`.
pub mod Rooms
pub mod Evening
