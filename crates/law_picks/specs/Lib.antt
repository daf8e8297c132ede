-- What demand 3 says of picks in a row, and the desk bench's picks.
pub mod Stretch
pub mod Bench
