pub mod Trees
mod Choosing
mod Operands
