pub mod Listing
pub mod Ranges
pub mod Types
pub mod Rows
pub mod Attempts
pub mod Claims
