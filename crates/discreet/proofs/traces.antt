pub mod Given
pub mod Theorem
pub mod Every
pub mod Examples
pub mod Program
