-- What is proved of an event: Laws has `received_goes` and `flushed_goes`.
pub mod Laws
