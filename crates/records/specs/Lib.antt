pub mod Records
pub mod lines
