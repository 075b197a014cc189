pub mod Laws
pub mod Sending
pub mod Run
