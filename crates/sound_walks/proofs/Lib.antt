-- Laws of the definitions of specs/.
pub mod Left
pub mod Rules
