-- The session's laws.
pub mod Cut
pub mod Case
