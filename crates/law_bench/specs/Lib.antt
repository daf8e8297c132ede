-- The desk bench's table.
pub mod Table
