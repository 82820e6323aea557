pub mod Template
pub mod Registers
pub mod Sites
pub mod Words
pub mod Courses
pub mod Laws
