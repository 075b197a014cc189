-- Document 01 as definitions, one file for each of its sections.
pub mod Types
pub mod Sizes
pub mod Settings
pub mod Refusals
pub mod Flushing
pub mod Received
pub mod Fit
pub mod Editing
pub mod Classes
pub mod Echo
pub mod Output
pub mod Reads
pub mod Verdicts
pub mod Step
pub mod Trace
pub mod Asked
