pub mod Constants
pub mod Returned
