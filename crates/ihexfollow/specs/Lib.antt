pub mod Replies
pub mod Claims
