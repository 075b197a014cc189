-- What an event does to stored input.
pub mod Following
