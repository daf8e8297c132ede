-- What goes through a queue over a history, and the statements about it.
pub mod Order
