-- Laws of the definitions of specs/.
pub mod States
pub mod Answers
pub mod Known
pub mod Lines
pub mod First
