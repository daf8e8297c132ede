-- The statements about owners.
pub mod Belonging
