-- Laws of replies.
pub mod Replies
