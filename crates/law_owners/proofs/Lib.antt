-- Laws of owners in a sound picture, and of the trees that they make.
pub mod Owners
pub mod Members
