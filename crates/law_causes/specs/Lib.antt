-- The causes of the keys: for every key, the exact condition, in the words of the rules.
pub mod Faults
pub mod Reasons
pub mod Causes
pub mod Memory
pub mod Others
