-- Demand 3, as it is to be read.
pub mod Types
pub mod Statement
pub mod Reports
