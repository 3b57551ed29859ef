-- Laws of look-ups: among entries by number, of values by type, and what the book's definitions find by name.
pub mod SeekLaws
pub mod ValueLaws
pub mod FoundLaws
