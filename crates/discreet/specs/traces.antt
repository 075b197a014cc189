pub mod Statement
pub mod Program
