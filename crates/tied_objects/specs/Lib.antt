pub mod Objects
pub mod Initial
