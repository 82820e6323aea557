pub mod Range
pub mod Thresholds
pub mod Kept
