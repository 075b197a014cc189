pub mod Fresh
pub mod Results
pub mod Layers
pub mod Calls
pub mod Promises
pub mod following
