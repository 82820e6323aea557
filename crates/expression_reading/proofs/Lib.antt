pub mod AllRight
pub mod ByLimit
pub mod ByMark
pub mod ByOperand
pub mod Parts
