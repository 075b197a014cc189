pub mod Statement
pub mod traces
