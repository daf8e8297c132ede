-- A fresh picture is sound.
pub mod Sound
