pub mod SimpleMarks
pub mod SimpleNamed
pub mod SimpleRight
