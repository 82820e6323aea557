pub mod AllRight
pub mod Braced
pub mod Declarators
pub mod Dimensions
pub mod Initialisers
pub mod ObjectsRight
pub mod Specifiers
