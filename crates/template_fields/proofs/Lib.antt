pub mod Fronts
pub mod Fields
pub mod Writes
pub mod Guards
