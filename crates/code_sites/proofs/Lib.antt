pub mod Bodies
pub mod Indices
pub mod Marks
pub mod Sited
pub mod Rows
pub mod Numbered
