-- Laws of the definitions of specs/.
pub mod Whole
pub mod Room
