-- What the calls on a channel's queue keep, and the queue as a list over those calls.
pub mod Walk
pub mod Written
pub mod Ways
pub mod Kept
pub mod Stays
pub mod Lists
