-- Laws of the definitions of specs/.
pub mod Next
pub mod Bounds
pub mod Call
