pub mod Pausing
pub mod Fronts
