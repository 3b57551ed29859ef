-- Laws of lists of names.
pub mod Behind
pub mod Heads
pub mod Forms
pub mod Again
