-- The definitions that the contracts cite.
pub mod Door
pub mod Turn
