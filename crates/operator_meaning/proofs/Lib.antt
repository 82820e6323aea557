pub mod Consequences
pub mod Names
pub mod Norms
pub mod Reading
pub mod Products
pub mod Shifts
pub mod Values
