pub mod Laws
pub mod Claims
