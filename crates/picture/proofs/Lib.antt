-- Laws of the definitions of specs/.
pub mod Records
pub mod Numbers
pub mod Members
pub mod Timeout
