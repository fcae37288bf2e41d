pub mod Colors
pub mod Light
pub mod After
pub mod Claims
pub mod Helpers
pub mod Aliases
