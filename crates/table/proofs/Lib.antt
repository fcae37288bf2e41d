pub mod Windows
pub mod Passing
pub mod Claims
