pub mod Along
pub mod Ask
pub mod Claims
pub mod Helpers
pub mod Aliases
