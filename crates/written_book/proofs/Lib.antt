-- The laws of services that write a book.
pub mod LeavesLaws
