-- What the steps of asking promise one another.
pub mod Asks
