-- Why the rows found are the rows that may be had.
pub mod AnswerLaws
pub mod AskedLaws
pub mod CallLaws
