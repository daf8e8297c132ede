-- The definitions that the contracts cite.
pub mod Within
pub mod Fields
