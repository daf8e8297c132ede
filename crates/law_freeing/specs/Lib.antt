-- The definitions that the laws cite.
pub mod Merge
pub mod Swept
