-- What a new entry of a table keeps.
pub mod Written
pub mod Kept
