pub mod Statement_equations
pub mod Restored
