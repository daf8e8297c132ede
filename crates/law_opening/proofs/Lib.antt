-- What opening a channel keeps.
pub mod Ways
pub mod Room
pub mod Opened
pub mod Kept
pub mod Open
pub mod Queues
