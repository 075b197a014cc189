pub mod GoesOff
pub mod GoesOn
