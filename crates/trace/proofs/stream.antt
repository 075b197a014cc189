pub mod Laws
pub mod Lengths
pub mod Taking
pub mod Feeding
pub mod Pieces
pub mod WholeInput
