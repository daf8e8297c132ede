-- What $2 answers, for whom, and that it leaves the picture.
pub mod Next
pub mod Answer
pub mod Bench
pub mod Kept
