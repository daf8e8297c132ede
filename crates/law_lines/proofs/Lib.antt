-- What is written is read back, and lines worked out.
pub mod Same
pub mod Cases
