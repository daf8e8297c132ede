-- The report of a tree, in words.
pub mod Lines
pub mod Asked
pub mod Causes
