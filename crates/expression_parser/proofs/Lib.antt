pub mod HeightEquations
pub mod Marks
pub mod ReaderEquations
