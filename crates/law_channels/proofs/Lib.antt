-- What opening and closing a channel keep.
pub mod Forgotten
pub mod Closed
pub mod Close
pub mod Queues
