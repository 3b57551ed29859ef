-- What the contracts of putting a tidy book speak of.
pub mod Pieces
pub mod Inside
