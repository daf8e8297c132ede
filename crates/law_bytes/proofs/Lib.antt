-- The order of bytes, proved.
pub mod Kept
pub mod Calls
pub mod Events
pub mod Order
pub mod Bench
