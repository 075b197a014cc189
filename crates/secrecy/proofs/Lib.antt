-- What is proved of demand 3: Theorem has `secrecy` and `one_report`. Rename, Meanings, Keeps and Calls lead to it. Given says that only a read gives bytes.
pub mod Rename
pub mod Meanings
pub mod Keeps
pub mod Calls
pub mod Theorem
pub mod Given
pub mod Carried
pub mod Weigh
pub mod Examples
pub mod Needed
pub mod Faults
