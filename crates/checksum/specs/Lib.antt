pub mod Checksum
pub mod Claims
