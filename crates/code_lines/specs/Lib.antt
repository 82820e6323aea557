pub mod Words
pub mod Own
pub mod Leading
pub mod Lines
pub mod Pieces
