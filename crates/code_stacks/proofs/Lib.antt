pub mod Registers
pub mod Keeping
pub mod Operands
