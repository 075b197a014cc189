pub mod Theorem
pub mod traces
