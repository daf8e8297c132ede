-- Laws of the definitions of specs/.
pub mod Passed
pub mod Rules
