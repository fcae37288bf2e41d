pub mod Copying
pub mod Claims
