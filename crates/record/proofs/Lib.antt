pub mod Choices
pub mod Offender
pub mod Judging
pub mod Standing
pub mod Writing
pub mod Claims
pub mod Respelling
pub mod Noise
