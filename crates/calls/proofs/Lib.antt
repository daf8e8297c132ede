-- Laws of the definitions of specs/.
pub mod Outcome
pub mod Call
pub mod Found
