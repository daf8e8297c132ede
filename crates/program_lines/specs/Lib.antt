-- The definitions that the contracts cite.
pub mod Frames
pub mod Feeds
