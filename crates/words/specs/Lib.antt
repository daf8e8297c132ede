-- The definitions that the contracts cite.
pub mod Words
pub mod Bits
pub mod Each
pub mod Signed
