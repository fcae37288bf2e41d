pub mod Placing
pub mod Load
pub mod Taking
pub mod Helpers
pub mod Claims
pub mod Stored
