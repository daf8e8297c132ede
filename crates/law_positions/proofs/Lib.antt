-- Where a new entry stands, proved.
pub mod Walked
pub mod Positions
