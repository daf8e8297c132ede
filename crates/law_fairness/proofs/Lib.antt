-- The law's proof, and that its figures are the best.
pub mod Count
pub mod Fair
pub mod Least
