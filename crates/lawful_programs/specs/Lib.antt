pub mod Form
pub mod Heights
pub mod Laws
