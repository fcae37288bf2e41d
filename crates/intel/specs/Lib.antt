pub mod Placing
pub mod Lines
pub mod Sums
pub mod Records
