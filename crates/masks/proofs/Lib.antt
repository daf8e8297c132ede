-- Laws of the definitions of specs/.
pub mod Masks
pub mod Lowest
