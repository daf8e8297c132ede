-- The definitions that the contracts cite.
pub mod Ended
pub mod Remove
