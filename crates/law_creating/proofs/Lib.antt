-- What creating a job keeps and refuses.
pub mod Ways
pub mod Made
pub mod Kept
pub mod Others
pub mod New
