pub mod Numbers
pub mod ReadWhole
pub mod SourceRight
pub mod Whole
