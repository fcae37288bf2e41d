pub mod Commit
pub mod Claims
