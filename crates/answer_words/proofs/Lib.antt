-- The reasoning behind the words of answers.
pub mod RowLaws
