pub mod Load
pub mod Claims
