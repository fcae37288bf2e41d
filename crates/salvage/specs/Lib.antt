pub mod Salvage
pub mod Told
pub mod Helpers
pub mod Fates
pub mod Standing
pub mod Claims
pub mod Bytes
pub mod Aliases
