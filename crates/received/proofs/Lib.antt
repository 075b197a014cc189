pub mod GoodByte
pub mod Events
