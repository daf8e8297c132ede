-- What a sound picture gives, and what makes a picture sound.
pub mod Sound
pub mod View
pub mod Same
pub mod Ages
pub mod Jobs
pub mod Sizes
pub mod Worked
