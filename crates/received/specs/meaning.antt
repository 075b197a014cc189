-- What the answers of the code mean in the rules.
pub mod Meaning
