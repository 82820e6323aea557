pub mod Lower
pub mod NextReaders
pub mod NoReaders
pub mod ReadersRight
