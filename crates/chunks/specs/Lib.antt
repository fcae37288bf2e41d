pub mod Begun
pub mod Next
pub mod Line
pub mod Helpers
pub mod Rows
pub mod Claims
pub mod First
