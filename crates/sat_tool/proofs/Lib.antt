pub mod Fit
pub mod Fronts
pub mod Headline
pub mod RunHeadline
pub mod Running
pub mod Serving
