-- Laws of the definitions of specs/.
pub mod Same
pub mod Lines
