-- The definitions that the contracts cite.
pub mod Header
pub mod Walk
