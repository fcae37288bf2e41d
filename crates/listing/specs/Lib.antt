pub mod Listing
pub mod Listed
pub mod Helpers
pub mod Status
pub mod Claims
pub mod Aliases
