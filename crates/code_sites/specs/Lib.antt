pub mod Sites
pub mod Operands
pub mod Laws
