pub mod Tree
pub mod Placed
pub mod FullForms
pub mod Costs
