pub mod Bits
pub mod Box
pub mod Image
pub mod Relation
pub mod Site
pub mod Fitting
