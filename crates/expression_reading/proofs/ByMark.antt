pub mod Chains
pub mod ChainsRight
pub mod ChoicesRight
pub mod ExpressionStep
pub mod ExpressionsRight
