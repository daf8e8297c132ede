-- The laws that the functions' proofs cite.
pub mod Writer
pub mod Room
