-- A law of the tables.
pub mod Among
