-- What the contracts of the later names speak of.
pub mod Later
pub mod Ends
pub mod Ask
