-- The theorems of the tidy book, and what they rest on.

-- what every accepted book is, and what a line must be to be written; every accepted book is so
pub mod Made
pub mod ReadLineMade
pub mod AcceptedMade
-- what is written for a line reads back as the line: its items, the line, the text
pub mod ItemsBack
pub mod LineBack
pub mod TextBack
-- names that are apart, lines without a fault; the lines of a book by kind read as the book, and the tidied book can be written too
pub mod Apart
pub mod Faultless
pub mod BookBack
pub mod TidiedMade
-- books that say the same: lists that go together, the texts read by such books, their rows and the services, and the tidied book
pub mod Together
pub mod SameReading
pub mod SameRows
pub mod SameTidied
-- the theorems; computed, books that say the same or not, and long books
pub mod Tidying
pub mod TidyExamples
pub mod LongTidyBooks
