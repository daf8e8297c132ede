-- What stays sound where blocks of one area are placed or given back.
pub mod Cases
pub mod Tables
pub mod Moved
pub mod Matching
pub mod Change
pub mod Placing
pub mod Freeing
pub mod Unchanged
pub mod Intact
pub mod Cut
