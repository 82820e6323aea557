pub mod Layouts
pub mod Slots
pub mod Homes
pub mod Laid
