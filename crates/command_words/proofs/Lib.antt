pub mod Asked
pub mod Digits
pub mod Leaves
pub mod Named
pub mod Readings
pub mod Tables
