pub mod Colors
pub mod Places
pub mod Telling
pub mod Sixteen
pub mod Turns
pub mod History
pub mod Claims
pub mod After
