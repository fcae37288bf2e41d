pub mod Load
pub mod Claims
pub mod Helpers
pub mod Taking
pub mod Segments
pub mod Packed
pub mod Noise
pub mod Joined
