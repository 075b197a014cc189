pub mod Contract
pub mod Pieces
