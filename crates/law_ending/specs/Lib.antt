-- What ending a tree promises.
pub mod Promise
