pub mod Rows
pub mod Calls
pub mod Reasons
pub mod OneReason
pub mod Sums
pub mod Puts
pub mod Claims
