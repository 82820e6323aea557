pub mod Source_equations
pub mod Restored
pub mod Sorted_once
pub mod Rising
