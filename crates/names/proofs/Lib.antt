-- Laws of the definitions of specs/.
pub mod Digits
pub mod Pipe
