-- What the query writer's contracts speak of.
pub mod Pieces
pub mod Writable
pub mod Inside
