-- Laws of the definitions of specs/.
pub mod Fields
pub mod Pick
pub mod Tick
