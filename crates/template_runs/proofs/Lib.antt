pub mod Effects
pub mod Names
pub mod Visits
pub mod Steps
pub mod Follows
pub mod Fits
pub mod Copies
pub mod Plain
