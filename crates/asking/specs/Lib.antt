-- The definitions that the contracts cite.
pub mod Next
pub mod Ask
