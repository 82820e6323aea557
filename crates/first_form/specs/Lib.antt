pub mod Finding
pub mod Form
pub mod Laws
pub mod Meaning
