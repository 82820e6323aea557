pub mod Faults
pub mod Rows
pub mod Laws
pub mod Limits
pub mod Shapes
pub mod Told
