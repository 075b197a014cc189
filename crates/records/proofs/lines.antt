pub mod Texts
pub mod Front
pub mod Hex
pub mod Lines
pub mod Promises
