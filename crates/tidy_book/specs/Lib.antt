-- What the contracts of the tidy book speak of.
pub mod Asked
