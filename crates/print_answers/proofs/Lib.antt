-- Why what is printed lies in its text, and what is printed of a short text.
pub mod PutLaws
pub mod RequestLaws
pub mod WrittenLaws
