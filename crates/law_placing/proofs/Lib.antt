-- What placing a block leaves, and which free block is the longest.
pub mod Rule
pub mod Longest
pub mod Written
pub mod Placed
pub mod Outcome
pub mod Example
