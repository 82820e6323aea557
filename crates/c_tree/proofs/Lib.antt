pub mod Deepest
pub mod Depths
pub mod ExpressionBoxes
pub mod Nodes
pub mod StatementBoxes
