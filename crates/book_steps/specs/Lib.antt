-- What one line more gives: its fault, or the book with it.
pub mod Steps
