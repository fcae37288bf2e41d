pub mod Index
pub mod Along
pub mod Meeting
pub mod Reading
pub mod Claims
