pub mod FirstLine
pub mod Laws
