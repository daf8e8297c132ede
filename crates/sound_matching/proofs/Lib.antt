-- Laws of the definitions of specs/.
pub mod Agreeing
pub mod Converted
pub mod Counts
pub mod Ranges
pub mod Matched
