-- What pick and tick keep of a sound picture.
pub mod Pick
pub mod Tick
