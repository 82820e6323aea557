pub mod Looser
pub mod OperandRules
pub mod Operands
pub mod Optional
