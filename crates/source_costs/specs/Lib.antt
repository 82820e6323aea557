pub mod Costs
pub mod Trees
pub mod Laws
