-- What is proved of the rules.
pub mod Check
pub mod Truth
pub mod Examples
pub mod Traces
pub mod Classes
pub mod OutputLaws
pub mod Limits
pub mod Handed
pub mod Asked
pub mod WrongPorts
