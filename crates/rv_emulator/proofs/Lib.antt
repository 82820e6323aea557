pub mod After
pub mod Moments
