-- Entries and values by their numbers, and what a look-up may take for granted.
pub mod Entries
pub mod Ready
