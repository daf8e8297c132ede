-- Laws of the definitions of specs/.
pub mod Bytes
pub mod Ring
