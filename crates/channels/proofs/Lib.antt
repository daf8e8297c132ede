-- Laws of the definitions of specs/.
pub mod Found
pub mod Timeout
