-- Laws of the definitions of specs/.
pub mod Count
pub mod Chosen
pub mod Answer
