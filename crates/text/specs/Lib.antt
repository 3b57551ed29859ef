-- What the readers of a text give, by places.
pub mod Places
pub mod Parts
pub mod Lines
