pub mod Contract
pub mod Demand2
pub mod events
pub mod sending
pub mod reads
pub mod changes
