-- Lists of names in a line, by places.
pub mod Names
