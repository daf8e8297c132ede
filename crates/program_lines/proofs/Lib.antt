-- The laws that the functions' proofs cite.
pub mod Ends
pub mod Kept
pub mod Meaning
