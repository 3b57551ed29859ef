-- What the words of answers are.
pub mod Words
