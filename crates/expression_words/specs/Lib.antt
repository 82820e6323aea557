pub mod Branches
pub mod Operands
