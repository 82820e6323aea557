pub mod Equations
pub mod Appends
