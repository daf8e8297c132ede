-- Laws of the definitions of specs/, and what a sound picture says of its areas.
pub mod Room
pub mod Sizes
pub mod Tables
