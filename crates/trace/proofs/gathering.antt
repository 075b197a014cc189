pub mod Keeping
pub mod Laws
