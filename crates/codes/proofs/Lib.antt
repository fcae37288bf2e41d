pub mod States
pub mod Says
pub mod Claims
pub mod Lights
pub mod Listeners
