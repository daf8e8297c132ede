-- The definitions that the contracts cite.
pub mod Layout
pub mod Records
pub mod Numbers
pub mod Keys
pub mod Answers
