-- What is told of answers.
pub mod Told
