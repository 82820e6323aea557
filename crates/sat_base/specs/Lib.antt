pub mod Clip
pub mod Faults
pub mod Limits
pub mod Observation
pub mod Position
