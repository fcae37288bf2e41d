pub mod Codes
pub mod States
pub mod Lights
pub mod Listeners
pub mod Claims
