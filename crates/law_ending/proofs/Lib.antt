-- Laws of the definitions of crate ending.
pub mod Tables
pub mod Taken
pub mod Areas
pub mod Owned
pub mod Sound
pub mod Calls
pub mod OfTheTree
pub mod Leaving
pub mod Taking
pub mod Promise
pub mod Refusal
pub mod Bench
