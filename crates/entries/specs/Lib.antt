pub mod Entry
pub mod Helpers
pub mod Attempts
pub mod Claims
pub mod Aliases
