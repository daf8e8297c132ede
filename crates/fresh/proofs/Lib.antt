-- Laws of the definitions of specs/.
pub mod Clear
pub mod Good
