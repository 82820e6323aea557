pub mod Grammar
pub mod Marks
pub mod Nodes
pub mod Parts
pub mod Programs
pub mod Spelling
pub mod Spots
pub mod Symbols
