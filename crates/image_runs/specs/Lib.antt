pub mod Observed
pub mod Fronts
