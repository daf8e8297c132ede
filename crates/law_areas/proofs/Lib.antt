-- Laws of the definitions of specs/, and of a part that was cleared.
pub mod Row
pub mod Clear
pub mod Lie
