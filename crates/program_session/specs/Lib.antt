-- The definitions that the contracts cite.
pub mod Session
pub mod Pieces
pub mod Rooms
