pub mod Leading
pub mod Entering
pub mod Lines
pub mod Pieces
pub mod Flushes
