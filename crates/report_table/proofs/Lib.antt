-- What the proofs share.
pub mod Cut
