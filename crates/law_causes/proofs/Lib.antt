-- The causes of the keys, proved.
pub mod Matching
pub mod Tests
pub mod Calls
pub mod Causes
pub mod Memory
pub mod Others
