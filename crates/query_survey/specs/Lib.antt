-- The names in pieces, what counts towards each limit, what suits a type, the survey, and what the tables of names have.
pub mod Names
pub mod Counting
pub mod Suits
pub mod Survey
pub mod Known
