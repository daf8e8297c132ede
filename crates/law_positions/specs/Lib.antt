-- The statements about positions.
pub mod Positions
