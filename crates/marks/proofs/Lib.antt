pub mod Below
pub mod Bits
pub mod Rows
pub mod Runs
pub mod Searches
pub mod UnusedBits
pub mod Claims
