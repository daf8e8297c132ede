-- Laws of the definitions of specs/.
pub mod Holds
pub mod Room
pub mod Halves
pub mod Fused
