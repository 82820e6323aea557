pub mod AllRight
pub mod FunctionParts
pub mod Items
