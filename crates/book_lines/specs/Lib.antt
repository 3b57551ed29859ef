-- What the parts of a line give, by places in the line.
pub mod Forms
pub mod Names
pub mod Entries
