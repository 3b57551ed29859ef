-- The laws behind the tidy book.
pub mod TidyLaws
