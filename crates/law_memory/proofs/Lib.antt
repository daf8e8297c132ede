-- What the calls on memory keep and refuse.
pub mod Ways
pub mod Kept
pub mod Room
pub mod Others
