-- The definitions that the contracts cite.
pub mod Part
pub mod Lines
