-- What $2 answers, in words.
pub mod Answer
