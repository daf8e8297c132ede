-- What the lines of a report are, that $2 meets the same jobs, and what each key is given for.
pub mod Counts
pub mod Members
pub mod Depth
pub mod Run
pub mod Causes
pub mod Lines
pub mod Asked
