-- What the readers of items give, by places.
pub mod Reads
pub mod Rest
