-- Laws of the lines that are printed.
pub mod PrintingLaws
pub mod RowLaws
pub mod LengthLaws
pub mod FrontLaws
pub mod AnswerLaws
