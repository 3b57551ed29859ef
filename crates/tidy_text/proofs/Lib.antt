-- The laws behind putting a tidy book.
pub mod TextLaws
pub mod PieceLaws
pub mod InsideLaws
pub mod ModelLaws
