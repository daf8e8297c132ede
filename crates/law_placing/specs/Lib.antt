-- What the laws say of placing, in words.
pub mod Rule
pub mod Placed
