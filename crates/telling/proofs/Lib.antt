-- The reasoning behind telling answers in numbers.
pub mod ToldLaws
pub mod AnswerLaws
