pub mod State
pub mod Sending
pub mod Layers
pub mod Calls
pub mod following
