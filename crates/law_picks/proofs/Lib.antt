-- The pick's rule in words, what is quiet between picks, and that no turn is lost.
pub mod Rule
pub mod Given
pub mod Quiet
pub mod Kept
pub mod Fairness
pub mod Bench
