-- The statements.
pub mod Cut
pub mod Case
