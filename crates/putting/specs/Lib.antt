-- What the contracts of putting texts into buffers speak of.
pub mod Putting
pub mod Listing
pub mod Whole
pub mod Examples
