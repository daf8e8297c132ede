-- What a sweep leaves, and what it leaves where one block is given back.
pub mod Goes
pub mod Rows
pub mod Join
pub mod Swept
pub mod Alone
pub mod Example
pub mod Neighbours
pub mod Ends
pub mod Released
pub mod Merged
