pub mod Tied_equations
