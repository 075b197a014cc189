pub mod Laws
pub mod Promises
pub mod Demand2
