pub mod Parts
pub mod Trees
pub mod Observed
pub mod Safe
pub mod Examples
