-- The marked cases of the desk bench, and names of every kind.
pub mod Helper
pub mod Table
pub mod Names
