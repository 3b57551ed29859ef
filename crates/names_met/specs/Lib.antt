-- The names met in a text.
pub mod Table
