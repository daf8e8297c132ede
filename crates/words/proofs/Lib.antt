-- Laws of the definitions of specs/.
pub mod Tests
pub mod Words
pub mod Signed
pub mod Each
