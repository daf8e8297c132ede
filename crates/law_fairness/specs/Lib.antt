-- The law of turns.
pub mod Turns
pub mod Law
