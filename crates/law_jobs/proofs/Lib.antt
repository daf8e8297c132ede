-- What the calls of jobs keep.
pub mod Passed
pub mod Effects
pub mod Kept
pub mod Corners
