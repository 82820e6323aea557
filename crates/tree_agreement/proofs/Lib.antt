pub mod LawfulParts
pub mod Runs
pub mod Agree
pub mod Calls
pub mod Whole
