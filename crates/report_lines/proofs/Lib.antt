-- Laws of the definitions of specs/.
pub mod Depth
pub mod Line
pub mod Order
pub mod Report
