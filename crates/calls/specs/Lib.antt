-- The definitions that the contracts cite.
pub mod Outcome
pub mod Call
pub mod Found
pub mod Registers
pub mod Writes
